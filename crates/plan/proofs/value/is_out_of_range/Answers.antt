-- `plan::value::is_out_of_range` meets its contract.
-- Assumes nothing.
use native.Mathlib.Omega.{arith}
use Rattle.table.proofs.Tables.{miss, hit}
use Rattle.plan.specs.Value.{out_of_range}
use Rattle.plan.proofs.value.is_out_of_range.Goals as goal

pub returns-then-any_above : goal.returns-then-any_above
unfolding out_of_range
returns-then-any_above c = grind (arith, miss, hit)

pub returns-else-any_above : goal.returns-else-any_above
unfolding out_of_range
returns-else-any_above c = grind (arith, miss, hit)
