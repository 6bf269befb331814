-- `plan::reading::no_length` meets its contract.
-- Assumes nothing.
use borrow.Author.Tests.{eq-eqb, ne_eqb}
use Rattle.plan.specs.Reading.{no_length}
use Rattle.plan.proofs.reading.no_length.Goals as goal

pub returns-then-n-eq0 : goal.returns-then-n-eq0
unfolding no_length
returns-then-n-eq0 c = rw (eq-eqb _ _ c.if-n-eq0.true)

pub returns-then-n-ne0 : goal.returns-then-n-ne0
unfolding no_length
returns-then-n-ne0 c = rw (ne_eqb _ _ c.if-n-eq0.false, ne_eqb _ _ c.if-n-ne0.true)

pub returns-else-n-ne0 : goal.returns-else-n-ne0
unfolding no_length
returns-else-n-ne0 c = rw (ne_eqb _ _ c.if-n-eq0.false, eq-eqb _ _ c.if-n-ne0.false)
