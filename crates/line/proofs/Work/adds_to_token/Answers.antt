use mathlib.Core.Path.{refl, sym, ap, ◌∙◌}
use Rattle.rules.specs.Token.{is_whole}
use Rattle.rules.specs.Steps.{adds_to_token}
use Rattle.line.specs.TokenChanges.{codes_of}
use Rattle.line.specs.With.{lent}
use Rattle.line.proofs.Turns.{told_does, then_does}
use Rattle.line.proofs.TokenBytes.{grown_counted}
use Rattle.line.proofs.FlowChanges.{here_only, here_not, tokened_does}
use Rattle.line.proofs.Work.adds_to_token.Goals as goal

pub tokened-next-requires : goal.tokened-next-requires
tokened-next-requires c = let pre = c.requires in record { counted_typed = c.args.self.counted.typed; token_len_bound = pre.token_len_bound }

pub is_held-requires : goal.is_held-requires
is_held-requires c =
    grown_counted c.args.self.flow.typed c.args.self.counted.typed _ c.requires.token_len_bound c.tokened-next.ensures

pub takes_token-requires : goal.takes_token-requires
takes_token-requires c =
    record { has_room = c.requires.has_room }

pub returns-then-is_held : goal.returns-then-is_held
unfolding adds_to_token
returns-then-is_held c =
    let a = c.args in
    let ready = c.with_typed-ready.ensures in
    let whole = ap (λ f. is_whole (codes_of f.typed)) ready.flow ∙ sym c.is_held.ensures ∙ c.if-is_held.true in
    let taken = c.takes_token.ensures in record {
      rule = λ l x.
          told_does _
          (then_does (tokened_does a.self ready a.c c.args.self.counted.typed c.requires.token_len_bound c.tokened-next.ensures (lent a.t a.text.now l) x _)
          (here_only _ refl whole (taken.rule l x)));
    }

pub returns : goal.returns
unfolding adds_to_token
returns c =
    let a = c.args in
    let ready = c.with_typed-ready.ensures in
    let next = c.tokened-next.ensures in
    let whole = ap (λ f. is_whole (codes_of f.typed)) ready.flow ∙ sym c.is_held.ensures ∙ c.if-is_held.false in record {
      rule = λ l x.
          told_does _
          (then_does (tokened_does a.self ready a.c c.args.self.counted.typed c.requires.token_len_bound next (lent a.t a.text.now l) x _)
          (here_not _ x _ refl whole));
    }
