-- `plan::value::check` meets its contract, line by line of the table.
-- Assumes nothing.
use native.Mathlib.Omega.{arith}
use borrow.Author.Tests.{lt-ltb, le-ltb}
use Rattle.table.proofs.Tables.{miss, hit}
use Rattle.plan.specs.Value.{plan_refusal}
use Rattle.plan.proofs.value.check.Goals as goal

pub returns-then-is_outside : goal.returns-then-is_outside
unfolding plan_refusal
returns-then-is_outside c = grind (arith, miss, hit)

pub returns-in-Some : goal.returns-in-Some
unfolding plan_refusal
returns-in-Some c = grind (arith, miss, hit, c.in-Some.ensures)

pub returns-in-Some-lowest_over_cap : goal.returns-in-Some-lowest_over_cap
unfolding plan_refusal
returns-in-Some-lowest_over_cap c = grind (arith, miss, hit)

pub returns-then-from-all_reserved : goal.returns-then-from-all_reserved
unfolding plan_refusal
returns-then-from-all_reserved c = grind (arith, miss, hit, lt-ltb)

pub returns : goal.returns
unfolding plan_refusal
returns c = grind (arith, miss, hit, le-ltb)
