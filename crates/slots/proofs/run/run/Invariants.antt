-- What holds between two lines.
-- Assumes nothing.
use Prim.Native.Nat.{◌-◌}
use lib.ListN.{length}
use Rattle.slots.proofs.Laws.Running.{Running}
use Rattle.slots.proofs.run.run.Given as goal

abbrev pub invariant-loop-offers : goal.invariant-loop-offers
invariant-loop-offers l =
    Running l.part l.limits.period l.allowed l.limits.reclaimcap l.limits.writebackcap l.initial.numbers l.initial.tables l.from l.numbers l.tables l.at

abbrev pub decreases-loop-offers : goal.decreases-loop-offers
decreases-loop-offers l = length l.part - l.at
