-- `regulator::calls::run_yield` meets its contract.
-- Assumes nothing.
use mathlib.Core.Path.{sym, ap, ◌∙◌}
use Rattle.std.proofs.lemmas.Result.{err_from_is_err_and}
use Rattle.regulator.specs.declared.state.State.{State}
use Rattle.regulator.specs.Calls.{Yielding}
use Rattle.regulator.proofs.Laws.Deciding.{yield_given}
use Rattle.regulator.proofs.Laws.Telling.{yield_told}
use Rattle.regulator.proofs.calls.run_yield.Goals as goal

pub returns-in_err-check_yield : goal.returns-in_err-check_yield
returns-in_err-check_yield c =
    let a = c.args in
    let p = err_from_is_err_and c.from_residual.result c.from_residual.ensures.1 in
    rw (p.1, p.2) (yield_told a.s a.domain a.k c.in_err-check_yield.field-0.0 c.in_err-check_yield.ensures)

pub returns : goal.returns
returns c =
    let a = c.args in
    let given : State → Yielding = λ t. record { refused = 0; state = t } in
    ap given c.give-t.ensures ∙ sym (yield_given a.s a.domain a.k (sym c.in_ok-check_yield.ensures))
