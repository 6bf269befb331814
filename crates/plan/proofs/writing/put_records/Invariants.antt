-- `plan::writing::put_records` meets its contract: the records passed are written, and the bytes behind them as they were.
-- Assumes nothing.
use Prim.Native.Nat.{◌+◌, ◌-◌, ◌≤◌}
use Rattle.plan.specs.Writing.{record_of}
use Rattle.plan.proofs.Laws.Filing.{Filled}
use Rattle.plan.proofs.writing.put_records.Given as goal

abbrev pub invariant-loop-k : goal.invariant-loop-k
invariant-loop-k l = (l.k ≤ l.l.count + 1) × Filled (record_of l.period l.l.count l.l.domains) l.initial.buffer l.buffer l.k

abbrev pub decreases-loop-k : goal.decreases-loop-k
decreases-loop-k l = l.l.count + 1 - l.k
