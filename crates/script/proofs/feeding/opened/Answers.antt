-- `script::feeding::opened` meets its contract.
-- Assumes nothing.
use mathlib.Core.Path.{sym, ap, ◌∙◌}
use Rattle.plan.specs.Reading.{reading_by}
use Rattle.script.proofs.Laws.Feeding.{opened_read}
use Rattle.script.proofs.feeding.opened.Goals as goal

pub returns : goal.returns
returns c = opened_read c.args.plan.now _ (ap reading_by (sym c.in_ok-read.was) ∙ c.read.ensures) c.open.result c.open.ensures
