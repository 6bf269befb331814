-- `edit::compacting::move_records` meets its contract: the records passed are moved, and the bytes behind them as they were.
-- Assumes nothing.
use Prim.Native.Nat.{◌≤◌}
use Rattle.plan.specs.Records.{record_count}
use Rattle.plan.proofs.Laws.Filing.{Filled}
use Rattle.edit.specs.Compaction.{moved_record}
use Rattle.edit.proofs.compacting.move_records.Given as goal

abbrev pub invariant-loop-k : goal.invariant-loop-k
invariant-loop-k l =
    (l.k ≤ record_count l.initial.file) × Filled (moved_record l.initial.file) l.initial.file l.file l.k
