-- `script::carrying::yield_step` meets its contract.
-- Assumes nothing.
use mathlib.Core.Path.{sym, ap, ◌∙◌}
use Rattle.std.specs.Prelude.{Err}
use Rattle.std.proofs.lemmas.Result.{err_from_is_err_and}
use Rattle.regulator.specs.Calls.{yielding_by}
use Rattle.script.proofs.Laws.Carrying.{step_yield, step_no_yield, stepped_as}
use Rattle.script.proofs.carrying.yield_step.Goals as goal

pub returns-in_err-run_yield : goal.returns-in_err-run_yield
returns-in_err-run_yield c =
    let a = c.args in
    let p = err_from_is_err_and c.from_residual.result c.from_residual.ensures.1 in
    λ o. stepped_as (sym (p.1 ∙ ap Err p.2)) (step_no_yield a.s a.domain a.k o _ (ap (yielding_by a.s) (sym c.in_err-run_yield.was) ∙ c.run_yield.ensures))

pub returns : goal.returns
returns c =
    let a = c.args in
    λ o. step_yield a.s a.domain a.k o _ (ap (yielding_by a.s) (sym c.in_ok-run_yield.was) ∙ c.run_yield.ensures)
