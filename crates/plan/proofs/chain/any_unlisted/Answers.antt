-- `plan::chain::any_unlisted` meets its contract.
-- Assumes nothing.
use mathlib.Core.Path.{ap}
use mathlib.Core.Bool.{not}
use borrow.Author.Tests.{lt-ltb, le-ltb}
use Rattle.plan.specs.Chain.{unlisted}
use Rattle.plan.proofs.chain.any_unlisted.Goals as goal

pub returns-then-b-gt1 : goal.returns-then-b-gt1
unfolding unlisted
returns-then-b-gt1 c = rw (lt-ltb _ _ c.if-b-gt1.true)

pub returns-else-b-gt1 : goal.returns-else-b-gt1
unfolding unlisted
returns-else-b-gt1 c = rw (le-ltb _ _ c.if-b-gt1.false) (ap not c.all_zero.ensures)
