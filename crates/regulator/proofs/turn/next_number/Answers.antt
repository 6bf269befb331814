-- `regulator::turn::next_number` meets its contract.
-- Assumes nothing.
use native.Mathlib.Omega.{arith}
use borrow.Author.Tests.{eq-eqb, ne_eqb}
use Rattle.regulator.specs.Turn.{after}
use Rattle.regulator.proofs.turn.next_number.Goals as goal

pub returns-then-n-eq16 : goal.returns-then-n-eq16
unfolding after
returns-then-n-eq16 c = (rw (eq-eqb _ 16 c.if-n-eq16.true), omega arith)

pub returns-else-n-eq16 : goal.returns-else-n-eq16
unfolding after
returns-else-n-eq16 c = (rw (ne_eqb _ 16 c.if-n-eq16.false), omega arith)
