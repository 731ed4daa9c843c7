-- For the line: the two messages by the bytes of their list, and an answer that is carried.
use mathlib.Core.Path.{◌≡◌, refl, ap}
use Prim.Native.Nat.{ℕ}
use native.Mathlib.Omega.{arith}
use mathlib.Core.Bool.{true}
use mathlib.Core.List.{List, []}
use Rattle.rules.specs.Messages.Forms as forms
use Rattle.rules.specs.Messages.Codec.{message}
use Rattle.rules.specs.State.{Host, State, with_host}
use Rattle.rules.specs.Calls.{carries_questions}
use Rattle.rules.proofs.Choice.{pick_true}
use Rattle.fields.specs.declared.Span.{Span}
use Rattle.message.specs.declared.Message.TheVariants.{ReadCharacteristics, Characteristics}
use Rattle.fields.specs.Spans.{span_of}
use Rattle.message.specs.Found.{held_in, list_message}
use Rattle.parameters.proofs.Shapes.{is_question, is_setting}
use Rattle.message.proofs.Lists.{list_from}
use Rattle.characteristics.specs.Lists.{settings_in, questions_in, answer_to, report_bytes}

pub held_settings : (s : List ℕ) (p : Span) → held_in s (Characteristics p) ≡ message (settings_in (span_of s p))
unfolding held_in
held_settings s p =
    ap (list_message forms.characteristics []) (list_from 11 (is_setting (λ e. omega arith) (λ e. omega arith)) s p)

pub held_questions : (s : List ℕ) (p : Span) → held_in s (ReadCharacteristics p) ≡ message (questions_in (span_of s p))
unfolding held_in
held_questions s p =
    ap (list_message forms.read_characteristics []) (list_from 10 (is_question (λ e. omega arith) refl) s p)

pub report_carried : (h : Host) (list : List ℕ) (s : State ℕ) → carries_questions (with_host h s) (questions_in list) ≡ true →
    report_bytes h list ≡ answer_to list h
unfolding report_bytes carries_questions
report_carried h list s e = pick_true _ _ e
