-- `plan::sums::sums_told` meets its contract.
-- Assumes nothing.
use Rattle.plan.proofs.Laws.Telling.{told_all}
use Rattle.plan.proofs.sums.sums_told.Goals as goal

pub returns : goal.returns
returns c = told_all _ _ c.way-w.ensures
