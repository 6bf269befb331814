-- `plan::chain::check_record` meets its contract: a number that is not refused is 1 to 16.
-- Assumes nothing.
use mathlib.Core.Path.{sym, ◌∙◌}
use native.Mathlib.Omega.{arith}
use Rattle.plan.proofs.Laws.Values.{within}
use Rattle.plan.proofs.chain.check_record.Goals as goal

pub overflow_sub-number : goal.overflow_sub-number
overflow_sub-number c = omega (arith, within 16 _ (sym c.is_outside.ensures ∙ c.if-is_outside.false))

pub bounds-planned-from : goal.bounds-planned-from
bounds-planned-from c = omega (arith, within 16 _ (sym c.is_outside.ensures ∙ c.if-is_outside.false))
