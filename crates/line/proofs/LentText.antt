-- The text that is lent for a read: its type says how long it is.
use mathlib.Core.Path.{◌≡◌, sym, ◌∙◌}
use Prim.Native.Nat.{ℕ, ◌≤◌}
use native.Mathlib.Omega.{arith}
use mathlib.Core.List.{List}
use lib.ListN.{length}
use Rattle.rules.specs.Numbers.{input_size}
use Rattle.rules.proofs.Numbers.{input_numeral, input_size_lem}
use Rattle.line.specs.declared.Reading.{Reading}
use Rattle.line.specs.declared.Terms.{Terms}
use Rattle.line.specs.Bounded.{CountedReading}
use Rattle.line.specs.ReadChanges.{HasRoom}

module _ (text : List ℕ) (told : length text ≡ input_numeral) where
  pub text_full : length text ≡ input_size
  text_full = told ∙ sym input_size_lem

  pub lent_reading : (r : Reading) → r.input_len ≤ input_size → CountedReading r text
  lent_reading r h = record { within = h; full = text_full }

  -- a read that has room is counted
  pub room_reading : (t : Terms) (r : Reading) → HasRoom t r → CountedReading r text
  room_reading t r h =
      let room = h.room in
      let largest = h.largest in
      lent_reading r (omega arith)
