-- `plan::value::any_above` meets its contract.
-- Assumes nothing.
use borrow.Author.Tests.{lt-ltb, le-ltb}
use Rattle.plan.specs.Value.{above}
use Rattle.plan.proofs.value.any_above.Goals as goal

pub returns-then-most-q : goal.returns-then-most-q
unfolding above
returns-then-most-q c = rw (lt-ltb _ _ c.if-most-q.true)

pub returns-then-most-r : goal.returns-then-most-r
unfolding above
returns-then-most-r c = rw (le-ltb _ _ c.if-most-q.false, lt-ltb _ _ c.if-most-r.true)

pub returns-else-most-r : goal.returns-else-most-r
unfolding above
returns-else-most-r c = rw (le-ltb _ _ c.if-most-q.false, le-ltb _ _ c.if-most-r.false)
