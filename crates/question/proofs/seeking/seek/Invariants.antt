-- `question::seeking::seek` meets its contract: lines after lines, until the search ends or no line is left.
-- Assumes nothing.
use mathlib.Core.Bool.{cond}
use Prim.Native.Nat.{◌+◌, ◌-◌}
use lib.ListN.{length}
use Rattle.question.specs.Seeking.{goes_on, Sought}
use Rattle.question.proofs.seeking.seek.Given as goal

abbrev pub invariant-loop-end : goal.invariant-loop-end
invariant-loop-end l = Sought l.part l.initial.r l.r

abbrev pub decreases-loop-end : goal.decreases-loop-end
decreases-loop-end l = cond (goes_on l.r.stage) (length l.part + 1 - l.r.used) 0
