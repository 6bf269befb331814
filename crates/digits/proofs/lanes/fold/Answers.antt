-- `digits::lanes::fold` meets its contract.
-- Assumes nothing.
use Rattle.digits.proofs.Laws.Folding.{folded}
use Rattle.digits.proofs.lanes.fold.Goals as goal

pub returns : goal.returns
returns c = folded c.args.x
