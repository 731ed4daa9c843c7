-- What was moved says the same.
use mathlib.Core.Path.{◌≡◌, refl, sym, ap, ◌∙◌}
use Prim.Native.Nat.{ℕ}
use mathlib.Core.Bool.{true}
use mathlib.Core.List.{List}
use lib.ListN.{length}
use Rattle.rules.specs.Messages.Codec.{Outcome, refused, sound, all_bytes}
use Rattle.rules.specs.Settings.{is_form, meaning_of}
use Rattle.rules.specs.Settings.Moving.{move}
use Rattle.rules.proofs.Settings.Moving.{keeps_meaning, refused_number}
use Rattle.std.specs.Prelude.{Result}
use Rattle.rules.specs.declared.refusals.Refusal.{Refusal}
use Rattle.areas.specs.InFront.{number_in, InFront}
use Rattle.areas.proofs.InFront.{answers_as_lem, front_bytes_lem}
use Rattle.replay.specs.Moved.{SaysTheSame}

module _ (form : ℕ) (known : is_form form ≡ true) (bytes : List ℕ) (are_bytes : all_bytes bytes ≡ true) {before after : List ℕ} {r : Result ℕ Refusal} where
  pub says_the_same : InFront (move form (length before) bytes) before r after → SaysTheSame bytes r after
  unfolding number_in
  says_the_same w = by_outcome (move form (length before) bytes) refl
    where
      by_outcome : (o : Outcome (List ℕ)) → move form (length before) bytes ≡ o → SaysTheSame bytes r after
      by_outcome (refused n) e =
          record { means = λ accepted. absurd (refused_number form (length before) bytes e (sym (w.number ∙ ap number_in e) ∙ accepted)) }
      by_outcome (sound moved) e =
          record {
            means = λ accepted. ap meaning_of (front_bytes_lem (answers_as_lem (sym e) w)) ∙ (keeps_meaning form (length before) bytes moved known are_bytes e).means;
          }
