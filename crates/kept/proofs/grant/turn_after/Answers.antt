-- `kept::grant::turn_after` meets its contract.
-- Assumes nothing.
use borrow.Author.Tests.{ne_eqb}
use Rattle.regulator.specs.Turn.{after}
use Rattle.kept.proofs.grant.turn_after.Goals as goal

pub returns-then-n-eq16 : goal.returns-then-n-eq16
unfolding after
returns-then-n-eq16 c = rw c.if-n-eq16.true

pub returns-else-n-eq16 : goal.returns-else-n-eq16
unfolding after
returns-else-n-eq16 c = rw (ne_eqb c.args.n 16 c.if-n-eq16.false)
