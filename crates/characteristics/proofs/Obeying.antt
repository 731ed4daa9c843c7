-- The parameters of a Characteristics message, one at a time.
use mathlib.Core.Path.{◌≡◌, sym, ap, ◌∙◌}
use Prim.Native.Nat.{ℕ, ◌<◌, ◌≤◌}
use mathlib.Core.Bool.{Bool}
use mathlib.Core.List.{List}
use lib.Dec.{eqb}
use lib.ListN.{length, get_or, set}
use borrow.Author.Tests.{eq-eqb, ne_eqb}
use Rattle.rules.specs.Choice.{pick}
use Rattle.rules.specs.Messages.Parameters.{selector, character_attributes}
use Rattle.rules.specs.State.{Host, Switches, with_switches, with_attributes}
use Rattle.rules.specs.Characteristics.{masked, with_attribute, with_switch, with_parameter, with_parameters}
use Rattle.rules.proofs.Choice.{pick_true, pick-false}
use Rattle.parameters.specs.declared.Parameter.{Parameter}
use Rattle.parameters.specs.Lists.{ParameterIs, parameters_from, used_at}
use Rattle.parameters.proofs.Shapes.{parameters_end}
use Rattle.characteristics.specs.declared.Host as declared
use Rattle.characteristics.specs.View.{KeepsSettings}

-- a selector that has no switch
pub no_switch : {n : ℕ} (on : Bool) (s : Switches) → (n ≡ 516 → ⊥) → (n ≡ 517 → ⊥) → (n ≡ 518 → ⊥) → (n ≡ 521 → ⊥) → s ≡ with_switch n on s
unfolding with_switch pick
no_switch {n} on s raise echo escape prompt = rw (ne_eqb n 516 raise, ne_eqb n 517 echo, ne_eqb n 518 escape, ne_eqb n 521 prompt)

module _ {at : ℕ} {s : List ℕ} {p : Parameter} (is : ParameterIs 11 at s p) (h : Host) where
  abbrev here : List ℕ
  here = used_at 11 at s

  pub sets_attribute : p.selector ≡ character_attributes → {table : List ℕ} →
      table ≡ set h.attributes p.first (masked 7 p.second (get_or h.attributes p.first 0) p.third) →
      with_attributes table h ≡ with_parameter here h
  unfolding with_parameter with_attribute
  sets_attribute n e =
      ap (λ t. with_attributes t h)
      (e ∙ (λ i. set h.attributes (is.one i) (masked 7 (is.two i) (get_or h.attributes (is.one i) 0) (is.three i)))) ∙
      sym (pick_true _ _ (eq-eqb (selector here) character_attributes (sym is.selected ∙ n)))

  pub sets_switch : (p.selector ≡ character_attributes → ⊥) → {switches : Switches} →
      switches ≡ with_switch p.selector (eqb p.first 1) h.switches →
      with_switches switches h ≡ with_parameter here h
  unfolding with_parameter
  sets_switch n e =
      ap (λ x. with_switches x h) (e ∙ (λ i. with_switch (is.selected i) (eqb (is.one i) 1) h.switches)) ∙
      sym (pick-false _ _ (ne_eqb (selector here) character_attributes (λ k. n (is.selected ∙ k))))

  -- the first of those that are left
  pub obeys_first : at < length s → {next : Host} → next ≡ with_parameter here h →
      with_parameters (parameters_from 11 p.next s) next ≡ with_parameters (parameters_from 11 at s) h
  unfolding with_parameters
  obeys_first l e =
      ap (with_parameters (parameters_from 11 p.next s)) e ∙ sym (ap (λ ps. with_parameters ps h) (is.list l))

pub obeys_none : (at : ℕ) (s : List ℕ) (h : Host) → length s ≤ at → with_parameters (parameters_from 11 at s) h ≡ h
unfolding with_parameters
obeys_none at s h l = ap (λ ps. with_parameters ps h) (parameters_end 11 at s l)

pub kept_then : {a b c : declared.Host} → KeepsSettings a b → KeepsSettings b c → KeepsSettings a c
kept_then f g = record { initiated = g.initiated ∙ f.initiated; set = g.set ∙ f.set; counted = λ k. g.counted (f.counted k) }
