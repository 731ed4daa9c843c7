-- A line that was loaded, and one that was not, answer as the rules do.
use mathlib.Core.Path.{◌≡◌, refl, sym, ap, ap₂, ◌∙◌, subst}
use Prim.Native.Nat.{ℕ}
use mathlib.Core.Bool.{Bool, true, false, not, ◌&&◌}
use mathlib.Core.List.{List, [], ◌∷◌}
use native.Mathlib.Omega.{arith}
use lib.ListN.{length, take}
use lib.Seq.{take_all}
use Rattle.rules.specs.Choice.{pick, first_row_answer, is_empty, joined}
use Rattle.rules.specs.Numbers.{accepted, unsound_record}
use Rattle.rules.specs.Messages.Codec.{set_size}
use Rattle.rules.specs.State.{codes, with_host}
use Rattle.rules.specs.Turns.{changes}
use Rattle.rules.specs.Settings.{set_section, is_sound, are_sound, found_section, found_or, loads}
use Rattle.rules.specs.Calls.{Call, load, refuses, does, answers_load, answers, answer, message_bytes, area_after}
use Rattle.rules.specs.Bounds as bounds
use Rattle.rules.specs.Bounds.{is_byte_event, Within}
use Rattle.rules.proofs.Bounds.Calls.{call_within}
use Rattle.rules.proofs.Bounds.Settings.{set_found}
use Rattle.line.specs.declared.Line.{Line}
use Rattle.line.specs.declared.Answer.{Answer}
use Rattle.line.specs.View.{view}
use Rattle.line.specs.Bounded.{Counted, Bounded}
use Rattle.line.specs.Answers.{ruled, Answers}
use Rattle.console.specs.Loading.{Loads}

-- what holds of an empty section and of another holds of every section
pub by_section : {P : Type 0} (section : List ℕ) → (length section ≡ 0 → P) → ((length section ≡ 0 → ⊥) → P) → P
by_section [] none some = none refl
by_section (b ∷ bs) none some = some (λ e. omega arith)

-- an empty section leaves what was there, and another says what it says
pub found_either : {A : Type 0} (says : List ℕ → A) (section : List ℕ) (kept : A) {x : A} → (length section ≡ 0 → x ≡ kept) →
    ((length section ≡ 0 → ⊥) → x ≡ says section) → x ≡ found_or says section kept
unfolding found_or is_empty pick
found_either says [] kept none some = none refl
found_either says (b ∷ bs) kept none some = some (λ e. omega arith)

-- a set that is found has no more bytes than a set can have
pub whole_set : (own site kept : List ℕ) →
    found_or (take set_size) (found_section set_section own site) kept ≡ found_or (λ bytes. bytes) (found_section set_section own site) kept
unfolding found_or
whole_set own site kept =
    let set = found_section set_section own site in ap (pick (is_empty set) kept) (take_all set_size set (set_found own site))

-- one part of what is loaded, by the section that was asked for
pub part_loaded : {A : Type 0} (says : List ℕ → A) (kept : A) {section found : List ℕ} {x : A} → x ≡ found_or says section kept → section ≡ found →
    x ≡ found_or says found kept
part_loaded says kept p e = p ∙ ap (λ s. found_or says s kept) e

-- both are sound, as the code tests it
pub both_sound : (own site : List ℕ) {a b t : Bool} → a ≡ is_sound own → b ≡ is_sound site → a && b ≡ t → are_sound own site ≡ t
unfolding are_sound
both_sound own site p q e = sym (ap₂ ◌&&◌ p q) ∙ e

abbrev done : Line → Answer
done next = record { line = next; number = accepted; terminal = 0; messages = 0 }

module _ (own site : List ℕ) (l : Line) where
  pub load_refused : are_sound own site ≡ false → ruled (load own site) l [] [] ≡ refuses unsound_record (view l)
  unfolding answer answers answers_load first_row_answer pick
  load_refused e = ap (λ sound. pick (not sound) (refuses unsound_record) (does (loads own site)) (view l)) e

  module _ (b : Bounded l) (sound : are_sound own site ≡ true) (bytes : is_byte_event (load own site) ≡ true) (next : Line) (h : Loads own site l next) where
    load_done : ruled (load own site) l [] [] ≡ does (loads own site) (view l)
    unfolding answer answers answers_load first_row_answer pick
    load_done = ap (λ sound. pick (not sound) (refuses unsound_record) (does (loads own site)) (view l)) sound

    within : Within (does (loads own site) (view l))
    within =
        let call : Call ℕ = record { terminal = 0; messages = 0; event = load own site } in
        subst Within load_done (call_within call (view l) bytes b.state)

    loaded_view : view next ≡ (does (loads own site) (view l)).turn.state
    unfolding does loads changes
    loaded_view = ap view h.same ∙ (λ i. with_host (h.settings i) (view l))

    loaded_counted : Counted next
    unfolding does loads changes
    loaded_counted =
        let c = b.counted in
        subst Counted (sym h.same)
        (record {
          table = ap (λ x. length x.attributes) h.settings ∙ within.state.host.table;
          keys = c.keys;
          text = c.text;
          set = c.set;
          last_set = h.set;
          prompt = c.prompt;
          flow = c.flow;
        })

    pub loaded_answers : Answers (load own site) l [] [] (done next) [] []
    unfolding does loads changes message_bytes joined area_after
    loaded_answers =
        let r = sym load_done in
        record {
          number = ap (λ a. a.number) r;
          state = loaded_view ∙ ap (λ a. a.turn.state) r;
          shown = ap (λ a. length a.turn.bytes) r;
          sent = ap (λ a. length (message_bytes codes a.turn)) r;
          terminal_area = ap (λ a. area_after a.turn.bytes []) r;
          message_area = ap (λ a. area_after (message_bytes codes a.turn) []) r;
          bounded = record { state = subst bounds.Bounded (sym loaded_view) within.state; counted = loaded_counted };
          same = λ n. absurd (n refl);
        }
