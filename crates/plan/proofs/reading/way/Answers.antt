-- `plan::reading::way` meets its contract.
-- Assumes nothing.
use mathlib.Core.Path.{sym, ◌∙◌}
use Rattle.plan.proofs.Laws.Values.{number_some}
use Rattle.plan.proofs.Laws.Reading.{way_refused, head_whole, way_walked}
use Rattle.plan.proofs.reading.way.Goals as goal

pub returns-in-Err : goal.returns-in-Err
returns-in-Err c =
    let head = rw c.in-Err.is at c.check_head.ensures in
    c.not_walked.ensures ∙ sym (way_refused _ _ head (number_some c.in-Err.fault))

pub walk-requires : goal.walk-requires
walk-requires c =
    let w = head_whole c.args.file.now (sym (rw c.in-Ok.is at c.check_head.ensures)) in
    (w.long, w.short)

pub returns-in-Ok : goal.returns-in-Ok
returns-in-Ok c = c.walk.ensures ∙ sym (way_walked _ (sym (rw c.in-Ok.is at c.check_head.ensures)))
