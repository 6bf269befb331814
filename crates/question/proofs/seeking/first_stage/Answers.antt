-- `question::seeking::first_stage` meets its contract.
-- Assumes nothing.
use mathlib.Core.Path.{sym}
use borrow.Author.Tests.{eq-eqb, ne_eqb}
use Rattle.table.proofs.Tables.{miss, hit}
use Rattle.question.specs.Inner.{first_stage}
use Rattle.question.proofs.seeking.first_stage.Goals as goal

pub returns-then-slot-eq0 : goal.returns-then-slot-eq0
unfolding first_stage
returns-then-slot-eq0 c = sym (hit _ _ _ (eq-eqb _ 0 c.if-slot-eq0.true))

pub returns : goal.returns
unfolding first_stage
returns c = sym (miss _ _ _ (ne_eqb _ 0 c.if-slot-eq0.false))
