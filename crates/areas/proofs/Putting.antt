-- What putting in parts comes to.
use mathlib.Core.Path.{◌≡◌, refl, sym, ap, ◌∙◌}
use Prim.Native.Nat.{ℕ, suc, ◌+◌, ◌-◌, ◌/◌, ◌%◌, ◌<◌, ◌≤◌}
use native.Mathlib.Nat.{mod-eq_of_lt}
use native.Mathlib.Omega.{arith}
use mathlib.Core.List.{List, [], ◌∷◌, ◌++◌}
use lib.ListN.{length, set, length-set}
use borrow.Author.Tests.{lt-ltb, le-ltb}
use Rattle.rules.specs.Area.{put, puts, spot}
use Rattle.rules.specs.Messages.Layout.{fields_in, bytes_of}
use Rattle.rules.proofs.Choice.{pick_true, pick-false}
use Rattle.rules.proofs.Area.{puts_append}
use Rattle.areas.specs.Puts.{Puts}
use Rattle.areas.specs.Writes.{Writes}
use Rattle.areas.specs.declared.Writer.{Writer}

module _ {before : List ℕ} {at : ℕ} where
  -- a byte where there is room, and where there is none
  pub stored : {b : ℕ} → at < length before → Puts (b ∷ []) before at (at + 1) (set before at b)
  unfolding puts put
  stored {b = b} h = record { area = sym (pick_true _ _ (lt-ltb at (length before) h)); same = length-set before at b }

  pub lost : {b : ℕ} → length before ≤ at → Puts (b ∷ []) before at at before
  unfolding puts put
  lost h = record { area = sym (pick-false _ _ (le-ltb at (length before) h)); same = refl }

module _ {old : Writer} where
  pub nothing : Writes [] old old
  unfolding puts
  nothing = record { puts = record { area = refl; same = refl }; same_reference = refl }

  pub equals : {xs ys : List ℕ} {new : Writer} → xs ≡ ys → Writes xs old new → Writes ys old new
  equals e w = rw e at w

  -- some bytes, and then more
  pub joins : {xs ys : List ℕ} {mid new : Writer} → Writes xs old mid → Writes ys mid new → Writes (xs ++ ys) old new
  joins {xs} {ys} w v =
      let first = w.puts in
      let more = v.puts in
      record {
        puts = record { area = more.area ∙ ap (puts ys) first.area ∙ sym (puts_append xs ys (spot old.area.now old.at)); same = more.same ∙ first.same };
        same_reference = v.same_reference ∙ w.same_reference;
      }

-- What is still to be put: a loop keeps what all of it comes to.
pub record Left (all : List ℕ) (old : Writer) (bytes : List ℕ) (new : Writer) : Type 0 where
  pub whole : puts bytes (spot new.area.now new.at) ≡ puts all (spot old.area.now old.at)
  pub same : length new.area.now ≡ length old.area.now
  pub same_reference : new.area.ghost_name ≡ old.area.ghost_name

module _ {all : List ℕ} {old : Writer} where
  pub all_left : Left all old all old
  all_left = record { whole = refl; same = refl; same_reference = refl }

  -- a turn puts the first of what is left
  pub turn : {xs ys bytes : List ℕ} {mid new : Writer} → bytes ≡ xs ++ ys → Left all old bytes mid → Writes xs mid new → Left all old ys new
  turn {xs} {ys} {bytes} {mid} e l w =
      let here = spot mid.area.now mid.at in
      record {
        whole = ap (puts ys) w.puts.area ∙ sym (puts_append xs ys here) ∙ ap (λ bs. puts bs here) (sym e) ∙ l.whole;
        same = w.puts.same ∙ l.same;
        same_reference = w.same_reference ∙ l.same_reference;
      }

  pub none_left : {bytes : List ℕ} {new : Writer} → bytes ≡ [] → Left all old bytes new → Writes all old new
  unfolding puts
  none_left {new = new} e l =
      record {
        puts = record { area = ap (λ bs. puts bs (spot new.area.now new.at)) (sym e) ∙ l.whole; same = l.same };
        same_reference = l.same_reference;
      }

-- A number of one byte.
pub one_byte : {v : ℕ} → v < 256 → bytes_of 1 v ≡ v ∷ []
unfolding fields_in
one_byte h = ap (λ b. b ∷ []) (mod-eq_of_lt h)

-- The next byte of a number, where some are put already, and its end.
pub next_digit : (count done n : ℕ) → done < count → bytes_of (count - done) n ≡ (n % 256 ∷ []) ++ bytes_of (count - (done + 1)) (n / 256)
unfolding fields_in
next_digit count done n h =
    let e : count - done ≡ suc (count - (done + 1)) = omega arith in
    ap (λ k. bytes_of k n) e

pub no_digits : {left : ℕ} (n : ℕ) → left ≤ 0 → bytes_of left n ≡ []
unfolding fields_in
no_digits {left} n h =
    let e : left ≡ 0 = omega arith in
    ap (λ k. bytes_of k n) e
