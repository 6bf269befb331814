-- `edit::dropping::place_of` meets its contract: the domain is none of those passed by.
-- Assumes nothing.
use Prim.Native.Nat.{◌≤◌}
use Rattle.edit.proofs.Laws.Listing.{Passed}
use Rattle.edit.proofs.dropping.place_of.Given as goal

abbrev pub invariant-loop-k : goal.invariant-loop-k
invariant-loop-k l = (l.k ≤ l.l.count) × Passed l.file l.number l.k
