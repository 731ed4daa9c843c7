-- Cells that hold a character of both runs: the rules run by the first codes and by the second over the same cells.
use Prim.Native.Nat.{ℕ}
use mathlib.Core.Path.{◌≡◌, refl, sym}
use mathlib.Core.Bool.{Bool, true, false, not, ◌&&◌, ◌||◌, false≢true}
use mathlib.Core.List.{List, [], ◌∷◌, map}
use mathlib.Core.Option.{Option, none, some}
use lib.Dec.{eqb}
use Rattle.rules.specs.Choice.{all_are}
use Rattle.rules.specs.Messages.Forms.{Message, read_data}
use Rattle.rules.specs.Editing.{is_word}
use Rattle.rules.specs.State.{Characters, State, Reading, raised}
use Rattle.rules.specs.Turns.{Turn, Fate, Rule}
use Rattle.rules.specs.TwoRuns.{Placed, typed_at, preloaded, code_in, raised_in, is_printing, same_class}
use Rattle.rules.specs.TwoRuns.{unechoed, untokened, unset, unset_raised}
use Rattle.rules.proofs.Choice.{all_cons}
use Rattle.rules.proofs.TwoRuns.Printing.{raised_printing, beq_same, unlike}

-- the two codes of a changed key
pub record Hidden (m n : ℕ) : Type 0 where
  pub first : is_printing m ≡ true
  pub second : is_printing n ≡ true
  pub class : same_class m n ≡ true

hidden_class : {m n : ℕ} → Hidden m n → is_word m ≡ is_word n
unfolding same_class
hidden_class {m} {n} h = beq_same (is_word m) (is_word n) h.class

pub hidden_raised : {m n : ℕ} → Hidden m n → Hidden (raised m) (raised n)
unfolding same_class
hidden_raised {m} {n} h =
    let p = raised_printing m h.first in
    let q = raised_printing n h.second in
    record { first = p.printing; second = q.printing; class = rw (p.class, q.class) h.class }

module _ (changed : ℕ → Bool) where
  pub data Twin : Type 0 where
    -- the same in both runs
    both : Placed → Twin
    -- a changed key
    apart : (place m n : ℕ) → changed place ≡ true → Hidden m n → Twin

module _ {changed : ℕ → Bool} where
  -- the character of one run, by a choice of one of two codes
  abbrev pub side_of : (ℕ → ℕ → ℕ) → Twin changed → Placed
  side_of choose (both p) = p
  side_of choose (apart place m n c h) = typed_at place (choose m n)

  abbrev pub first_row_answer : Twin changed → Placed
  first_row_answer = side_of (λ m n. m)

  abbrev pub second_of : Twin changed → Placed
  second_of = side_of (λ m n. n)

  abbrev pub is_both : Twin changed → Bool
  is_both (both p) = true
  is_both (apart place m n c h) = false

  abbrev pub is_apart : Twin changed → Bool
  is_apart c = not (is_both c)

  abbrev pub raise : Twin changed → Twin changed
  raise (both p) = both (raised_in p)
  raise (apart place m n c h) = apart place (raised m) (raised n) c (hidden_raised h)

  abbrev pub code₁ : Twin changed → ℕ
  code₁ c = code_in (first_row_answer c)

  abbrev pub code₂ : Twin changed → ℕ
  code₂ c = code_in (second_of c)

  -- the twins read by one of their codes
  abbrev pub side_chars : (ℕ → ℕ → ℕ) → Characters (Twin changed)
  side_chars choose = record { code = λ c. code_in (side_of choose c); raise = raise; given = λ n. both (preloaded n) }

  abbrev pub first_chars : Characters (Twin changed)
  first_chars = side_chars (λ m n. m)

  abbrev pub second_chars : Characters (Twin changed)
  second_chars = side_chars (λ m n. n)

  -- What the codes of a cell have in common.
  pub same_code : (c : Twin changed) → is_both c ≡ true → code₁ c ≡ code₂ c
  same_code (both p) e = refl
  same_code (apart place m n c h) e = absurd (false≢true e)

  pub same_codes : (cs : List (Twin changed)) → all_are is_both cs ≡ true → map code₁ cs ≡ map code₂ cs
  same_codes [] e = refl
  same_codes (c ∷ cs) e =
      let h = all_cons is_both c cs e in
      λ i. same_code c h.0 i ∷ same_codes cs h.1 i

  pub same_word : (c : Twin changed) → is_word (code₁ c) ≡ is_word (code₂ c)
  same_word (both p) = refl
  same_word (apart place m n c h) = unfold code_in in hidden_class h

  -- A changed key fails a test by either of its codes.
  pub record Settled (test : ℕ → Bool) (c : Twin changed) : Type 0 where
    pub first : is_both c ≡ false → test (code₁ c) ≡ false
    pub second : is_both c ≡ false → test (code₂ c) ≡ false

  pub settled_code : (k : ℕ) → is_printing k ≡ false → (c : Twin changed) → Settled (λ n. eqb n k) c
  settled_code k e (both p) =
      record { first = λ a. absurd (false≢true (sym a)); second = λ a. absurd (false≢true (sym a)) }
  settled_code k e (apart place m n c h) =
      unfold code_in in record { first = λ a. unlike k m e h.first; second = λ a. unlike k n e h.second }

  pub settled_or : {p q : ℕ → Bool} {c : Twin changed} → Settled p c → Settled q c → Settled (λ n. p n || q n) c
  settled_or x y =
      record { first = λ a. rw (x.first a, y.first a); second = λ a. rw (x.second a, y.second a) }

  pub settled_and : {p : ℕ → Bool} {c : Twin changed} (b : Bool) → Settled p c → Settled (λ n. p n && b) c
  settled_and b x = record { first = λ a. rw (x.first a); second = λ a. rw (x.second a) }

  -- The invariant: no changed key is in a token, nor in the input of a read that echoes.
  abbrev pub LevelReading : Reading (Twin changed) → Type 0
  LevelReading r = r.terms.echoes ≡ true → all_are is_both r.input ≡ true

  abbrev pub LevelRead : Option (Reading (Twin changed)) → Type 0
  LevelRead none = Unit {0}
  LevelRead (some r) = LevelReading r

  pub record Level (s : State (Twin changed)) : Type 0 where
    pub token : all_are is_both s.typed.token ≡ true
    pub pending_read : LevelRead s.pending_read

  -- What is supposed of a fate in one run, but for a key's arrival.
  unfoldable pub spared : (Twin changed → ℕ) → Fate (Twin changed) → Bool
  spared code f =
      unechoed code is_apart f &&
      untokened code is_apart f &&
      unset code is_apart f &&
      unset_raised code is_apart f

  abbrev pub Spared : (Twin changed → ℕ) → List (Fate (Twin changed)) → Type 0
  Spared code fs = all_are (spared code) fs ≡ true

  -- a changed key is sent nowhere but in the DATA of Read Data
  unfoldable pub is_guarded : Message (Twin changed) → Bool
  unfolding all_are
  is_guarded m = eqb m.kind read_data || all_are is_both m.text

  -- Two turns agree but for what they say of keys.
  pub record Agree (t u : Turn (Twin changed)) : Type 0 where
    pub bytes : t.bytes ≡ u.bytes
    pub messages : t.messages ≡ u.messages
    pub guarded : all_are is_guarded t.messages ≡ true
    pub state : t.state ≡ u.state
    pub level : Level t.state

  -- They do if changed keys were spared in both.
  pub record Agrees (t u : Turn (Twin changed)) : Type 0 where
    pub agreed : Spared code₁ t.fates → Spared code₂ u.fates → Agree t u

  -- two rules, from one state, and from any level state
  abbrev pub RulesAt : State (Twin changed) → Rule (Twin changed) → Rule (Twin changed) → Type 0
  RulesAt s f g = Agrees (f s) (g s)

  abbrev pub Rules : Rule (Twin changed) → Rule (Twin changed) → Type 0
  Rules f g = (s : State (Twin changed)) → Level s → RulesAt s f g

  -- a rule, by the first codes and by the second
  abbrev pub Agreeing : (Characters (Twin changed) → Rule (Twin changed)) → Type 0
  Agreeing rule = Rules (rule first_chars) (rule second_chars)
