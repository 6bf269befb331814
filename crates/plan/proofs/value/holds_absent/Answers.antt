-- `plan::value::holds_absent` meets its contract.
-- Assumes nothing.
use borrow.Author.Tests.{lt-ltb, le-ltb}
use Rattle.plan.proofs.value.holds_absent.Goals as goal

pub returns-then-reservation-gt0 : goal.returns-then-reservation-gt0
returns-then-reservation-gt0 c = rw (c.if-not-planned.true-raw, lt-ltb 0 _ c.if-reservation-gt0.true)

pub returns-else-reservation-gt0 : goal.returns-else-reservation-gt0
returns-else-reservation-gt0 c = rw (c.if-not-planned.true-raw, le-ltb 0 _ c.if-reservation-gt0.false)
