-- `edit::chain::list_first` meets its contract: record 0 and the records passed are listed.
-- Assumes nothing.
use Prim.Native.Nat.{◌≤◌}
use Rattle.edit.proofs.Laws.Listing.{Listing}
use Rattle.edit.proofs.chain.list_first.Given as goal

abbrev pub invariant-loop-k : goal.invariant-loop-k
invariant-loop-k l = (l.k ≤ l.count) × Listing l.file l.records l.k
