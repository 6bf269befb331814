-- `edit::rescuing::zero_others` meets its contract: the records passed are kept or zeroed, and the bytes behind them as they were.
-- Assumes nothing.
use Prim.Native.Nat.{◌≤◌}
use Rattle.plan.specs.Records.{record_count}
use Rattle.plan.proofs.Laws.Filing.{Filled}
use Rattle.edit.specs.Inner.{listed_only}
use Rattle.edit.proofs.rescuing.zero_others.Given as goal

abbrev pub invariant-loop-k : goal.invariant-loop-k
invariant-loop-k l =
    (l.k ≤ record_count l.initial.file) × Filled (listed_only l.initial.file l.l.count l.l.records) l.initial.file l.file l.k
