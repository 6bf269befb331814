-- `engine::calls::run_slot` meets its contract.
-- Assumes nothing.
use mathlib.Core.Path.{sym, ◌∙◌}
use Rattle.std.proofs.lemmas.Result.{err_from_is_err_and}
use Rattle.regulator.specs.Calls.{one_slot}
use Rattle.regulator.proofs.Laws.Deciding.{slot_decided}
use Rattle.regulator.proofs.Laws.Telling.{slot_told}
use Rattle.engine.proofs.calls.run_slot.Goals as goal

pub returns-in_err-check_slot : goal.returns-in_err-check_slot
returns-in_err-check_slot c =
    let a = c.args in
    let p = err_from_is_err_and c.from_residual.result c.from_residual.ensures.1 in
    rw (p.1, p.2) (slot_told a.s a.offers.now 17 c.in_err-check_slot.field-0.0 c.in_err-check_slot.ensures)

pub ask-a-requires : goal.ask-a-requires
ask-a-requires c = sym c.in_ok-check_slot.ensures

pub returns : goal.returns
unfolding one_slot
returns c =
    let a = c.args in
    c.grant_slot.ensures ∙ sym (slot_decided a.s a.offers.now 17 (sym c.in_ok-check_slot.ensures))
