-- `regulator::verdict::is_waiting` meets its contract, test by test.
-- Assumes nothing.
use mathlib.Core.Path.{ap}
use Prim.Native.Nat.{ℕ}
use lib.Dec.{ltb}
use borrow.Author.Tests.{eq-eqb, ne_eqb}
use Rattle.regulator.specs.Verdict.{waits}
use Rattle.regulator.proofs.verdict.is_waiting.Goals as goal

pub returns-then-offer-ne0 : goal.returns-then-offer-ne0
unfolding waits
returns-then-offer-ne0 c = rw (ne_eqb _ _ c.if-offer-ne0.true) (ap (λ (n : ℕ). ltb 0 n) c.claim_of-left.ensures)

pub returns-else-offer-ne0 : goal.returns-else-offer-ne0
unfolding waits
returns-else-offer-ne0 c = rw (eq-eqb _ _ c.if-offer-ne0.false)
