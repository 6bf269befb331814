-- `plan::reading::read_with_leftovers` meets its contract.
-- Assumes nothing.
use mathlib.Core.Path.{ap, ◌∙◌}
use Rattle.plan.specs.Walk.{walked_reading}
use Rattle.plan.proofs.Laws.Reading.{earlier_is}
use Rattle.plan.proofs.reading.read_with_leftovers.Goals as goal

pub returns : goal.returns
returns c = c.walked_reading.ensures ∙ ap walked_reading c.way.ensures ∙ earlier_is c.args.file.now
