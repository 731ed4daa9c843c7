-- Writing to the front of an area: a refusal, and bytes.
use mathlib.Core.Path.{◌≡◌, refl, sym, ap, ap₂, ◌∙◌}
use Prim.Native.Nat.{ℕ, ◌≤◌}
use mathlib.Core.List.{List}
use lib.ListN.{length, take, drop}
use lib.Seq.{take-append_seam}
use Rattle.rules.specs.Numbers.{accepted}
use Rattle.rules.specs.Calls.{area_after}
use Rattle.rules.specs.Messages.Codec.{Outcome, refused, sound}
use Rattle.rules.proofs.Area.{puts_front}
use Rattle.std.specs.Prelude.{Result, Ok, Err}
use Rattle.rules.specs.declared.refusals.Refusal.{Refusal}
use Rattle.rules.specs.Refusals.{number_of, answered}
use Rattle.areas.specs.Puts.{Puts}
use Rattle.areas.specs.InFront.{number_in, bytes_in, written, InFront}

-- A refusal leaves the area as it was.
pub refusal : {o : Outcome (List ℕ)} {before : List ℕ} {n : Refusal} → o ≡ refused (number_of n) →
    InFront o before (Err n) before
unfolding number_in bytes_in area_after
refusal {before = before} e =
    record {
      number = ap number_in (sym e);
      len = ap (λ o. length (bytes_in o)) (sym e);
      area = ap (λ o. area_after (bytes_in o) before) (sym e);
      same = refl;
    }

-- one outcome for another that it equals
pub answers_as_lem : {o o' : Outcome (List ℕ)} {before after : List ℕ} {r : Result ℕ Refusal} → o ≡ o' → InFront o' before r after → InFront o before r after
answers_as_lem e w = rw e w

-- bytes that were written stand in front
module _ {bytes before after : List ℕ} {r : Result ℕ Refusal} (w : InFront (sound bytes) before r after) where
  pub answer_accepted : answered r ≡ accepted
  unfolding number_in
  answer_accepted = w.number

  pub front_bytes_lem : take (written r) after ≡ bytes
  unfolding bytes_in area_after
  front_bytes_lem = ap₂ take w.len w.area ∙ take-append_seam bytes (drop (length bytes) before)

-- bytes put from the front on, where there is room
pub put_in_front : {o : Outcome (List ℕ)} {bytes before after : List ℕ} {n : ℕ} → o ≡ sound bytes → length bytes ≤ length before →
    Puts bytes before 0 n after → InFront o before (Ok n) after
unfolding number_in bytes_in
put_in_front {o} {bytes} {before} {after} {n} e room w =
    let there = w.area ∙ puts_front bytes before room in
    record {
      number = ap number_in (sym e);
      len = ap (λ p. p.at) there ∙ ap (λ o. length (bytes_in o)) (sym e);
      area = ap (λ p. p.area) there ∙ ap (λ o. area_after (bytes_in o) before) (sym e);
      same = w.same;
    }
