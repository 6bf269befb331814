-- `regulator::verdict::is_at_cap` meets its contract.
-- Assumes nothing.
use borrow.Author.Tests.{eq-eqb, ne_eqb}
use Rattle.regulator.specs.Verdict.{at_cap}
use Rattle.regulator.proofs.verdict.is_at_cap.Goals as goal

pub returns-then-offer-eq2 : goal.returns-then-offer-eq2
unfolding at_cap
returns-then-offer-eq2 c = rw (eq-eqb _ _ c.if-offer-eq2.true)

pub returns-else-offer-eq2 : goal.returns-else-offer-eq2
unfolding at_cap
returns-else-offer-eq2 c = rw (ne_eqb _ _ c.if-offer-eq2.false)
