-- Characteristics within bounds: the table keeps its size and its attributes.
use mathlib.Core.Path.{◌≡◌, ◌∙◌}
use Prim.Native.Nat.{ℕ, zero, suc, ◌/◌, ◌%◌, ◌^◌, ◌≤◌, ◌<◌}
use native.Mathlib.Nat.{two-pow-succ}
use native.Mathlib.Omega.{arith}
use mathlib.Core.Bool.{true}
use mathlib.Core.List.{List, [], ◌∷◌}
use lib.Dec.{ltb, eqb}
use lib.ListN.{length, get_or, length-set}
use borrow.Author.Tests.{lt-ltb}
use Rattle.rules.specs.Choice.{all_are}
use Rattle.rules.specs.Numbers.{input_size}
use Rattle.rules.specs.Messages.Layout.{byte_at}
use Rattle.rules.specs.Messages.Codec.{all_bytes}
use Rattle.rules.specs.Messages.Forms.{Message}
use Rattle.rules.specs.State.{Host, State}
use Rattle.rules.specs.Characteristics.{masked, with_attribute, with_parameter, with_parameters}
use Rattle.rules.specs.Host.{sets_characteristics}
use Rattle.rules.specs.Bounds.{is_attribute, BoundedHost, BoundedRead}
use Rattle.rules.proofs.Choice.{pick_case, all_set}
use Rattle.rules.proofs.Bounds.Turns.{Steady, Fine, rehosted, changes_good}

-- so many bits
masked_under : (width mask old new : ℕ) → masked width mask old new < 2 ^ width
unfolding masked
masked_under zero mask old new = omega arith
masked_under (suc width) mask old new =
    let rest = masked_under width (mask / 2) (old / 2) (new / 2) in
    let double = two-pow-succ width in
    let low = pick_case (λ (n : ℕ). n < 2) (eqb (mask % 2) 1) {a = new % 2} {b = old % 2} (λ y. omega arith) (λ n. omega arith) in
    omega arith

-- What parameters keep, whatever they hold: 256 places of seven bits, the set, and the largest read.
record Seven (h : Host) : Type 0 where
  table : length h.attributes ≡ 256
  seven : all_are (λ a. ltb a 128) h.attributes ≡ true
  set_length : length h.last_set ≤ 32
  set_bytes : all_bytes h.last_set ≡ true
  largest_read : h.largest_read ≤ input_size

parameter_seven : (p : List ℕ) (h : Host) → Seven h → Seven (with_parameter p h)
unfolding with_parameter with_attribute
parameter_seven p h k =
    pick_case Seven _
    (λ y.
    let old = get_or h.attributes (byte_at p 2) 0 in
    let under = masked_under 7 (byte_at p 3) old (byte_at p 4) in
    record {
      table = length-set h.attributes (byte_at p 2) _ ∙ k.table;
      seven = all_set (λ a. ltb a 128) h.attributes (byte_at p 2) _ (lt-ltb (masked 7 (byte_at p 3) old (byte_at p 4)) 128 under) k.seven;
      set_length = k.set_length;
      set_bytes = k.set_bytes;
      largest_read = k.largest_read;
    })
    (λ n. record { table = k.table; seven = k.seven; set_length = k.set_length; set_bytes = k.set_bytes; largest_read = k.largest_read })

parameters_seven : (ps : List (List ℕ)) (h : Host) → Seven h → Seven (with_parameters ps h)
unfolding with_parameters
parameters_seven [] h k = k
parameters_seven (p ∷ ps) h k = parameters_seven ps (with_parameter p h) (parameter_seven p h k)

settings_bounded : (m : Message ℕ) (h : Host) → BoundedHost h → BoundedHost (with_parameters m.parameters h)
unfolding is_attribute
settings_bounded m h b =
    let k = parameters_seven m.parameters h (record { table = b.table; seven = b.attributes; set_length = b.set_length; set_bytes = b.set_bytes; largest_read = b.largest_read }) in
    record { table = k.table; attributes = k.seven; set_length = k.set_length; set_bytes = k.set_bytes; largest_read = k.largest_read }

pub settings_fine : {s : State ℕ} (m : Message ℕ) → Steady BoundedRead s → Fine (sets_characteristics m s)
unfolding sets_characteristics
settings_fine {s = s} m h = changes_good _ (rehosted h (settings_bounded m s.host h.host))
