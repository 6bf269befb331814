-- `plan::value::is_over_cap` meets its contract.
-- Assumes nothing.
use native.Mathlib.Omega.{arith}
use Rattle.plan.specs.Value.{over_cap}
use Rattle.plan.proofs.value.is_over_cap.Goals as goal

pub returns : goal.returns
unfolding over_cap
returns c = grind arith
