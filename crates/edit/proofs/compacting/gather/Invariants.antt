-- `edit::compacting::gather` meets its contract: the records passed are gathered.
-- Assumes nothing.
use mathlib.Core.Path.{◌≡◌}
use Prim.Native.Nat.{ℕ, ◌+◌, ◌≤◌}
use lib.ListN.{length}
use Rattle.plan.specs.Records.{record_at}
use Rattle.plan.proofs.Laws.Filing.{Filled}
use Rattle.edit.specs.Compaction.{source}
use Rattle.edit.proofs.compacting.gather.Given as goal

abbrev pub invariant-loop-k : goal.invariant-loop-k
invariant-loop-k l =
    (l.k ≤ l.l.count + 1) × (length l.initial.store ≡ 272) × Filled (λ (j : ℕ). record_at l.file (source l.file j)) l.initial.store l.store l.k
