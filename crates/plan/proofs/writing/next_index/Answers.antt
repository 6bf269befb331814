-- `plan::writing::next_index` meets its contract.
-- Assumes nothing.
use mathlib.Core.Path.{sym}
use borrow.Author.Tests.{lt-ltb, le-ltb}
use Rattle.table.proofs.Tables.{miss, hit}
use Rattle.plan.proofs.writing.next_index.Goals as goal

pub returns-then-k-n : goal.returns-then-k-n
returns-then-k-n c = sym (hit _ _ _ (lt-ltb _ _ c.if-k-n.true))

pub returns-else-k-n : goal.returns-else-k-n
returns-else-k-n c = sym (miss _ _ _ (le-ltb _ _ c.if-k-n.false))
