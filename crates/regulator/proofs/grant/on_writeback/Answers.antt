-- `regulator::grant::on_writeback` meets its contract.
-- Assumes nothing.
use borrow.Author.Tests.{lt-ltb, le-ltb}
use Rattle.std.proofs.Common.{rules}
use Rattle.table.specs.Sums.{raised, lowered}
use Rattle.regulator.proofs.grant.on_writeback.Goals as goal

pub returns-then-s-j-gt0 : goal.returns-then-s-j-gt0
unfolding raised lowered
returns-then-s-j-gt0 c = rw (lt-ltb _ _ c.if-s-j-gt0.true) (search rules)

pub returns-else-s-j-gt0 : goal.returns-else-s-j-gt0
unfolding raised lowered
returns-else-s-j-gt0 c = rw (le-ltb _ _ c.if-s-j-gt0.false) (search rules)
