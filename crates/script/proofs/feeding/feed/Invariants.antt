-- `script::feeding::feed` meets its contract.
-- Assumes nothing.
use mathlib.Core.Bool.{cond}
use Prim.Native.Nat.{◌+◌, ◌-◌}
use lib.Dec.{eqb}
use lib.ListN.{length}
use Rattle.script.specs.Feeding.{Fed}
use Rattle.script.proofs.feeding.feed.Given as goal

abbrev pub invariant-loop-r : goal.invariant-loop-r
invariant-loop-r l = Fed l.part l.room l.initial.r l.initial.out l.r l.out

abbrev pub decreases-loop-r : goal.decreases-loop-r
decreases-loop-r l = cond (eqb l.r.refused 0) (length l.part + 1 - l.r.used) 0
