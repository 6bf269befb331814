-- `plan::value::all_reserved` meets its contract.
-- Assumes nothing.
use mathlib.Core.Path.{ap₂}
use Prim.Native.Nat.{◌+◌}
use Rattle.plan.specs.Value.{reserved}
use Rattle.plan.proofs.value.all_reserved.Goals as goal

pub returns : goal.returns
unfolding reserved
returns c = ap₂ ◌+◌ c.total.ensures.is c.total-2.ensures.is
