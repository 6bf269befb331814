-- `edit::adding::highest_free` meets its contract: what is left below gives what the whole gives.
-- Assumes nothing.
use mathlib.Core.Path.{◌≡◌}
use Rattle.table.specs.Ranges.{highest}
use Rattle.edit.specs.Inner.{unlisted_in}
use Rattle.edit.proofs.adding.highest_free.Given as goal

abbrev pub invariant-loop-k : goal.invariant-loop-k
invariant-loop-k l =
    let f = unlisted_in l.l.count l.l.records in
    highest f l.k ≡ highest f l.count
