-- `regulator::verdict::first_line` meets its contract, line by line.
-- Assumes nothing.
use Rattle.regulator.specs.Verdict.{ruling}
use Rattle.regulator.proofs.verdict.first_line.Goals as goal

pub returns-then-none : goal.returns-then-none
unfolding ruling
returns-then-none c = rw c.if-none.true

pub returns-then-capped : goal.returns-then-capped
unfolding ruling
returns-then-capped c = rw (c.if-none.false, c.if-capped.true)

pub returns-then-claimed : goal.returns-then-claimed
unfolding ruling
returns-then-claimed c = rw (c.if-none.false, c.if-capped.false, c.if-claimed.true)

pub returns-then-full : goal.returns-then-full
unfolding ruling
returns-then-full c = rw (c.if-none.false, c.if-capped.false, c.if-claimed.false, c.if-full.true)

pub returns-then-empty : goal.returns-then-empty
unfolding ruling
returns-then-empty c = rw (c.if-none.false, c.if-capped.false, c.if-claimed.false, c.if-full.false, c.if-empty.true)

pub returns-then-blocked : goal.returns-then-blocked
unfolding ruling
returns-then-blocked c =
    rw (c.if-none.false, c.if-capped.false, c.if-claimed.false, c.if-full.false, c.if-empty.false, c.if-blocked.true)

pub returns-else-blocked : goal.returns-else-blocked
unfolding ruling
returns-else-blocked c =
    rw (c.if-none.false, c.if-capped.false, c.if-claimed.false, c.if-full.false, c.if-empty.false, c.if-blocked.false)
