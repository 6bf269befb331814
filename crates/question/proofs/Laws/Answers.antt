-- Laws of the question that is read, and of the answer's text.
-- Assumes nothing.
use mathlib.Core.Path.{◌≡◌, refl, sym, ap, ap₂, ◌∙◌}
use mathlib.Core.Logic.{◌≢◌}
use mathlib.Core.Bool.{Bool, true, false, cond}
use mathlib.Core.List.{List}
use Prim.Native.Nat.{ℕ, ◌-◌}
use native.Mathlib.Omega.{arith}
use lib.Dec.{eqb}
use lib.ListN.{length}
use borrow.Author.Tests.{eq-eqb, ne_eqb}
use Rattle.table.specs.Sums.{nth}
use Rattle.table.proofs.Tables.{miss, hit}
use Rattle.regulator.specs.Refusals.{slot_refusal}
use Rattle.regulator.specs.declared.state.State.{State}
use Rattle.cause.specs.Explaining.{no_number, Explanation, explain_of, explain_number as number_of}
use Rattle.cause.specs.declared.explaining.ExplainFault.{ExplainFault}
use Rattle.regulator.proofs.Laws.Telling.{slot_numbered}
use Rattle.cause.proofs.Laws.Explaining.{explain_number, explain_told}
use Rattle.std.specs.Prelude.{Some, None}
use Rattle.script.specs.Inner.{numbers_in}
use Rattle.script.specs.declared.line.Numbers.{Numbers}
use Rattle.script.proofs.Laws.Reading.{written_values, unwritten}
use Rattle.question.specs.Ask.{asks, malformed, but_last, is_ask, question_of}
use Rattle.question.specs.Slots.{Decided}
use Rattle.question.specs.Answer.{told_text, ask_refused_text, slot_text}

-- the question: no byte 10 at the end, two numbers before it, or not
module _ (bs : List ℕ) where
  pub unended_malformed : nth bs (length bs - 1) ≢ 10 → question_of bs ≡ malformed
  unfolding question_of is_ask
  unended_malformed h = rw (ne_eqb _ 10 h) refl

  module _ (h : nth bs (length bs - 1) ≡ 10) where
    pub numbers_asked : (n : Numbers) → numbers_in 9 2 (but_last bs) ≡ Some n → question_of bs ≡ asks n.first n.second
    unfolding question_of is_ask
    numbers_asked n e =
        let v = written_values 9 2 (but_last bs) n e in
        rw (eq-eqb _ 10 h) (hit _ _ _ v.0 ∙ sym (ap₂ asks v.1 v.2))

    pub numbers_malformed : numbers_in 9 2 (but_last bs) ≡ None → question_of bs ≡ malformed
    unfolding question_of is_ask
    numbers_malformed e = rw (eq-eqb _ 10 h) (miss _ _ _ (unwritten 9 2 (but_last bs) e))

-- what is told in a decided slot is what the call explains
module _ (s : State) (o : List ℕ) (n : ℕ) (e : slot_refusal s o 17 ≡ 0) where
  abbrev here : Decided
  here = record { given = s; offers = o }

  pub slot_told : (x : Explanation) → x ≡ explain_of s o n
      → slot_text here n ≡ cond (eqb x.refused 0) (told_text x.verdict x.cause) (ask_refused_text x.refused)
  unfolding slot_text
  slot_told x q = go (no_number s.plan n) refl
    where
      by : Explanation → List ℕ
      by y = cond (eqb y.refused 0) (told_text y.verdict y.cause) (ask_refused_text y.refused)

      go : (b : Bool) → no_number s.plan n ≡ b → slot_text here n ≡ by x
      go true h = hit _ _ _ h ∙ sym (ap by (q ∙ explain_number s o n e h))
      go false h = miss _ _ _ h ∙ sym (ap by (q ∙ explain_told s o n e h))

-- no question is refused with 0
pub explain_numbered : (e : ExplainFault) → number_of e ≢ 0
explain_numbered (ExplainFault.Slot e) z = slot_numbered e z
explain_numbered ExplainFault.Number z = absurd (omega arith)
