-- `question::seeking::yield_line` meets its contract: the line is refused, or the search goes on.
-- Assumes nothing.
use mathlib.Core.Path.{refl, sym, ap, ◌∙◌}
use Rattle.regulator.specs.Calls.{yielding_by}
use Rattle.regulator.proofs.Laws.Telling.{yield_numbered}
use Rattle.question.proofs.Laws.Searching.{yield_over, yield_onward}
use Rattle.question.proofs.seeking.yield_line.Goals as goal

pub returns-in-Ok : goal.returns-in-Ok
returns-in-Ok c =
    let a = c.args in
    c.onward.ensures ∙ sym (yield_onward a.q a.domain a.k a.next _ (ap (yielding_by a.q.state) (sym c.in-Ok.is) ∙ c.run_yield.ensures) refl)

pub returns-in-Err : goal.returns-in-Err
returns-in-Err c =
    let a = c.args in
    c.over.ensures
    ∙ sym (yield_over a.q a.domain a.k a.next _ (ap (yielding_by a.q.state) (sym c.in-Err.is) ∙ c.run_yield.ensures) (yield_numbered c.in-Err.field-0))
