-- `digits::reading::lay` meets its contract.
-- Assumes nothing.
use Rattle.digits.proofs.Laws.Marking.{laid}
use Rattle.digits.proofs.reading.lay.Goals as goal

pub returns : goal.returns
returns c = laid c.args.first c.args.low c.args.high c.requires.0 c.requires.1 c.requires.2
