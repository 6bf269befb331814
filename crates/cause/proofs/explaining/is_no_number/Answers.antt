-- `cause::explaining::is_no_number` meets its contract.
-- Assumes nothing.
use mathlib.Core.Path.{refl}
use borrow.Author.Tests.{ne_eqb}
use Rattle.cause.specs.Explaining.{no_number}
use Rattle.cause.proofs.explaining.is_no_number.Goals as goal

pub returns-then-number-ne0 : goal.returns-then-number-ne0
unfolding no_number
returns-then-number-ne0 c = rw (ne_eqb _ 0 c.if-number-ne0.true) c.is_no_domain.ensures

pub returns-else-number-ne0 : goal.returns-else-number-ne0
unfolding no_number
returns-else-number-ne0 c = rw c.if-number-ne0.false refl
