-- How a step takes the first key: the rules' tests in order, at a line that is a variable, so that a proof does not write a whole line out for each.
use mathlib.Core.Path.{◌≡◌, refl, sym, ap, ◌∙◌, subst}
use Prim.Native.Nat.{ℕ}
use mathlib.Core.Bool.{true, false}
use mathlib.Core.List.{List}
use Rattle.std.specs.Prelude.{Some}
use Rattle.rules.specs.State as rules
use Rattle.rules.specs.State.{codes}
use Rattle.rules.specs.StartRead.{in_set}
use Rattle.rules.specs.Turns.{Rule, ◌then◌}
use Rattle.rules.specs.Token.{is_partial}
use Rattle.rules.specs.Steps.{is_token_start, is_edit_key, adds_to_token, takes_data, takes_plain, raised_by, takes}
use Rattle.sets.specs.View.{set_of}
use Rattle.line.specs.declared.Line.{Line}
use Rattle.line.specs.declared.Reading.{Reading}
use Rattle.line.specs.declared.acts.Taken.{Taken}
use Rattle.line.specs.declared.acts.Taken.TheVariants.{Token, Terminator, Edit, Data}
use Rattle.line.specs.declared.acts.Act.TheVariants.{Takes}
use Rattle.line.specs.View.{view}
use Rattle.line.specs.TokenChanges.{codes_of}
use Rattle.line.specs.Acts.{CanTakeKey, IsPending, idle_at_zero, key_taken, takes_key, taken_rule, Meets}
use Rattle.line.proofs.ActChoice.{met, meets_read, meets_behind, behind_first_lem, behind_second}

module _ (s : List ℕ) (l : Line) (r : Reading) where
  -- behind the taken key this rule is met so
  abbrev pub Behind : Rule ℕ → Taken → Type 0
  Behind rule x = Meets (takes_key l r then rule) s l (Takes x)

  module _ (e : l.flow.pending ≡ Some r) (can : CanTakeKey r l.flow l.terms) where
    -- the rule of the taken key itself
    pub taken_meets : (x : Taken) → Behind (taken_rule x (idle_at_zero l r)) x
    taken_meets x = meets_read (λ q. takes_key l q then taken_rule x (idle_at_zero l q)) e (met (subst (IsPending (λ q. CanTakeKey q l.flow l.terms)) (sym e) can))

    -- rules 5, 6 and 7
    module _ (c : ℕ) where
      pub plain_ends : in_set (set_of l.set) c ≡ true → Behind (takes_plain codes c (idle_at_zero l r)) (Terminator c)
      unfolding takes_plain
      plain_ends ends = behind_first_lem r _ _ _ refl ends (taken_meets (Terminator c))

      module _ (not_ends : in_set (set_of l.set) c ≡ false) where
        pub plain_edits : is_edit_key c (idle_at_zero l r) ≡ true → Behind (takes_plain codes c (idle_at_zero l r)) (Edit c)
        unfolding takes_plain
        plain_edits edits = behind_second r _ _ _ refl not_ends (behind_first_lem r _ _ _ refl edits (taken_meets (Edit c)))

        pub plain_data : is_edit_key c (idle_at_zero l r) ≡ false → Behind (takes_plain codes c (idle_at_zero l r)) (Data c)
        unfolding takes_plain
        plain_data edits = behind_second r _ _ _ refl not_ends (behind_second r _ _ _ refl edits (taken_meets (Data c)))

    -- rules 1 to 4, of a key with this code
    module _ (k : rules.Key ℕ) {c : ℕ} (code : c ≡ k.char) where
      pub first_partial : is_partial (codes_of l.flow.typed) ≡ true → Behind (takes codes k (idle_at_zero l r)) (Token c)
      unfolding takes
      first_partial partial =
          behind_first_lem r _ _ _ refl partial (meets_behind r _ _ (ap (λ n. adds_to_token codes n (idle_at_zero l r) (key_taken l r (view l))) (sym code)) (taken_meets (Token c)))

      module _ (no_token : is_partial (codes_of l.flow.typed) ≡ false) where
        pub first_quoted : k.quoted ≡ true → Behind (takes codes k (idle_at_zero l r)) (Data c)
        unfolding takes
        first_quoted quoted =
            behind_second r _ _ _ refl no_token
            (behind_first_lem r _ _ _ refl quoted
            (meets_behind r _ _ (ap (λ n. takes_data codes n (idle_at_zero l r) (key_taken l r (view l))) (sym code)) (taken_meets (Data c))))

        module _ (not_quoted : k.quoted ≡ false) where
          pub first_begins : is_token_start c (idle_at_zero l r) ≡ true → Behind (takes codes k (idle_at_zero l r)) (Token c)
          unfolding takes
          first_begins begins =
              behind_second r _ _ _ refl no_token
              (behind_second r _ _ _ refl not_quoted
              (behind_first_lem r _ _ _ refl (ap (λ n. is_token_start n (idle_at_zero l r)) (sym code) ∙ begins)
              (meets_behind r _ _ (ap (λ n. adds_to_token codes n (idle_at_zero l r) (key_taken l r (view l))) (sym code)) (taken_meets (Token c)))))

          pub first_plain : {n : ℕ} {x : Taken} → is_token_start c (idle_at_zero l r) ≡ false → n ≡ raised_by codes (idle_at_zero l r) c →
              Behind (takes_plain codes n (idle_at_zero l r)) x → Behind (takes codes k (idle_at_zero l r)) x
          unfolding takes
          first_plain begins raised plain =
              behind_second r _ _ _ refl no_token
              (behind_second r _ _ _ refl not_quoted
              (behind_second r _ _ _ refl (ap (λ n. is_token_start n (idle_at_zero l r)) (sym code) ∙ begins)
              (meets_behind r _ _
              (ap (λ n. takes_plain codes n (idle_at_zero l r) (key_taken l r (view l))) (ap (raised_by codes (idle_at_zero l r)) (sym code) ∙ sym raised))
              plain)))
