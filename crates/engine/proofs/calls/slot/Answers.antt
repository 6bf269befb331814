-- `engine::calls::slot` meets its contract.
-- Assumes nothing.
use mathlib.Core.Path.{sym, ◌∙◌}
use lib.ListN.{length}
use Rattle.std.proofs.lemmas.Result.{err_from_is_err_and}
use Rattle.regulator.specs.Calls.{one_slot}
use Rattle.regulator.proofs.Laws.Deciding.{slot_decided, shown_decided}
use Rattle.regulator.proofs.Laws.Telling.{slot_told, shown_told}
use Rattle.engine.proofs.calls.slot.Goals as goal

pub returns-in_err-check-clause-answer : goal.returns-in_err-check-clause-answer
returns-in_err-check-clause-answer c =
    let a = c.args in
    let p = err_from_is_err_and c.from_residual.result c.from_residual.ensures.1 in
    rw (p.1, p.2) (slot_told a.s a.offers.now (length a.verdicts.now) c.in_err-check.field-0.0 c.in_err-check.ensures)

pub returns-in_err-check-clause-shown : goal.returns-in_err-check-clause-shown
returns-in_err-check-clause-shown c =
    let a = c.args in
    shown_told a.s a.offers.now a.verdicts.now c.in_err-check.field-0.0 c.in_err-check.ensures

pub returns-clause-answer : goal.returns-clause-answer
unfolding one_slot
returns-clause-answer c =
    let a = c.args in
    c.decide.ensures.answer ∙ sym (slot_decided a.s a.offers.now (length a.verdicts.now) (sym c.in_ok-check.ensures))

pub returns-clause-shown : goal.returns-clause-shown
returns-clause-shown c =
    let a = c.args in
    c.decide.ensures.shown ∙ sym (shown_decided a.s a.offers.now a.verdicts.now (sym c.in_ok-check.ensures))
