-- The head of a message, group by group: from the bytes that the code puts to those that the definition has.
use mathlib.Core.Path.{◌≡◌, refl, sym, ap, ap₂, ◌∙◌}
use Prim.Native.Nat.{ℕ, suc, ◌+◌, ◌*◌, ◌-◌, ◌<◌, ◌≤◌}
use native.Mathlib.Omega.{arith}
use mathlib.Core.List.{List, [], ◌∷◌, ◌++◌}
use lib.ListN.{length, drop, replicate}
use lib.Seq.{drop-drop}
use Rattle.rules.specs.Messages.Layout.{Group, flags, byte, byte_at, fields_in, number_of, bytes_of, write_groups}
use Rattle.message.specs.declared.Message.{Message}
use Rattle.message.specs.Found.{held_in}
use Rattle.fields.proofs.Numbers.{byte_behind}
use Rattle.areas.specs.Writes.{Writes}
use Rattle.areas.specs.declared.Writer.{Writer}
use Rattle.fronts.specs.Front.{front_bytes}
use Rattle.areas.proofs.Putting.{equals, one_byte}

-- the bytes of these groups with these fields
pub record Head (gs : List Group) (vs bytes : List ℕ) : Type 0 where
  pub same : write_groups gs vs ≡ bytes

pub no_more : {vs : List ℕ} → Head [] vs []
unfolding write_groups
no_more = record { same = refl }

one_field : (w : ℕ) (vs : List ℕ) (v : ℕ) → number_of (w ∷ []) (v ∷ vs) ≡ v
unfolding number_of
one_field w vs v = omega arith

module _ {gs : List Group} {vs bytes : List ℕ} where
  -- bytes that hold no field
  pub none_first : Head gs vs bytes → Head (flags 1 [] ∷ gs) vs (0 ∷ bytes)
  unfolding write_groups number_of fields_in
  none_first h = record { same = ap (λ r. 0 ∷ r) h.same }

  -- one field in so many bytes
  pub field_first : (n w v : ℕ) → Head gs vs bytes → Head (flags n (w ∷ []) ∷ gs) (v ∷ vs) (bytes_of n v ++ bytes)
  unfolding write_groups
  field_first n w v h = record { same = ap₂ (λ k r. bytes_of n k ++ r) (one_field w vs v) h.same }

-- the definition's own bytes
pub others : {gs : List Group} {vs : List ℕ} → Head gs vs (write_groups gs vs)
others = record { same = refl }

-- fields of any widths
pub flags_first : (n : ℕ) (ws : List ℕ) (v : ℕ) {gs : List Group} {vs bytes : List ℕ} → v ≡ number_of ws vs →
    Head gs (drop (length ws) vs) bytes → Head (flags n ws ∷ gs) vs (bytes_of n v ++ bytes)
unfolding write_groups
flags_first n ws v e h = record { same = ap₂ (λ k r. bytes_of n k ++ r) (sym e) h.same }

-- a type, its head and what follows
pub headed : (kind : ℕ) (tail : List ℕ) {gs : List Group} {vs bytes : List ℕ} {old new : Writer} → Head gs vs bytes →
    Writes (kind ∷ (bytes ++ tail)) old new → Writes (kind ∷ (write_groups gs vs ++ tail)) old new
headed kind tail h w = equals (ap (λ b. kind ∷ (b ++ tail)) (sym h.same)) w

-- the bytes that a message of one case has are those of the message
pub held_as : (s : List ℕ) {m n : Message} {old new : Writer} → m ≡ n →
    Writes (front_bytes (held_in s n)) old new → Writes (front_bytes (held_in s m)) old new
held_as s e w = equals (ap (λ m. front_bytes (held_in s m)) (sym e)) w

-- A run of bytes, from a place on.
module _ (s : List ℕ) (count i : ℕ) where
  abbrev run : ℕ → ℕ → List ℕ
  run left at = write_groups (replicate left byte) (drop at s)

  pub first_of_run : i < count → {b : ℕ} → b ≡ byte_at s i → b < 256 → run (count - i) i ≡ (b ∷ []) ++ run (count - (i + 1)) (i + 1)
  unfolding write_groups number_of
  first_of_run h {b} e b< =
      let left : count - i ≡ suc (count - (i + 1)) = omega arith in
      let first : byte_at (drop i s) 0 + 256 * 0 ≡ b = omega (arith, byte_behind s i) in
      ap (λ k. run k i) left ∙ ap₂ ◌++◌ (ap (bytes_of 1) first ∙ one_byte b<) (ap (write_groups (replicate (count - (i + 1)) byte)) (drop-drop 1 i s))

  pub no_run : count ≤ i → run (count - i) i ≡ []
  unfolding write_groups
  no_run h = let none : count - i ≡ 0 = omega arith in ap (λ k. run k i) none
