-- The call that tells the cause: when it is refused, and what it answers.
-- Assumes nothing.
use Rattle.std.specs.Prelude.{ℕ, List, Bool, cond, not, ◌&&◌, eqb, Result, Ok, Err}
use Rattle.plan.specs.declared.value.Plan.{Plan}
use Rattle.regulator.specs.Refusals.{slot_refusal, slot_number, no_domain}
use Rattle.regulator.specs.declared.state.State.{State}
use Rattle.cause.specs.Cause.{Cause, none, verdict_of, cause_of, told_by}
use Rattle.cause.specs.declared.explaining.Explained.{Explained}
use Rattle.cause.specs.declared.explaining.ExplainFault.{ExplainFault}
use Rattle.cause.specs.declared.explaining.ExplainFault.TheVariants.{Slot, Number}

-- 62: "the number is neither 0 nor planned in that slot"
unfoldable pub no_number : Plan → ℕ → Bool
no_number p n = not (eqb n 0) && no_domain p n

-- the refusal of the slot, as with a verdict buffer of 17; and 62, "checked last"
unfoldable pub explain_refusal : State → List ℕ → ℕ → ℕ
explain_refusal s offers n =
    let r = slot_refusal s offers 17 in
    cond (eqb r 0) (cond (no_number s.plan n) 62 0) r

-- What is answered: 0 or the number of a refusal, the verdict, and its cause.
pub record Explanation : Type 0 where
  pub refused : ℕ
  pub verdict : ℕ
  pub cause : Cause

-- of number n, in the slot that a state and offers decide; a refusal carries 0 and no cause
unfoldable pub explain_of : State → List ℕ → ℕ → Explanation
explain_of s offers n =
    let r = explain_refusal s offers n in
    cond (eqb r 0) (record { refused = 0; verdict = verdict_of s offers n; cause = cause_of s offers n }) (record { refused = r; verdict = 0; cause = none })

-- The number of what the call is refused for.
abbrev pub explain_number : ExplainFault → ℕ
explain_number (Slot e) = slot_number e
explain_number Number = 62

-- what the call's answer says
abbrev pub explained_by : Result Explained ExplainFault → Explanation
explained_by (Ok e) = record { refused = 0; verdict = e.verdict; cause = told_by e.cause }
explained_by (Err e) = record { refused = explain_number e; verdict = 0; cause = none }
