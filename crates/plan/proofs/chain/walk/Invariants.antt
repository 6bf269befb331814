-- `plan::chain::walk` meets its contract: the loop's invariant is `Walking`, and its measure the records not seen yet.
-- Assumes nothing.
use Rattle.table.proofs.Flags.{unset}
use Rattle.plan.proofs.Laws.Walking.{Walking}
use Rattle.plan.proofs.chain.walk.Given as goal

abbrev pub invariant-loop-i : goal.invariant-loop-i
invariant-loop-i l = Walking l.file l.gathered l.seen l.i

abbrev pub decreases-loop-i : goal.decreases-loop-i
decreases-loop-i l = unset l.seen
