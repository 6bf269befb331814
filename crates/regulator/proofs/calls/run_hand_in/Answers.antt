-- `regulator::calls::run_hand_in` meets its contract.
-- Assumes nothing.
use mathlib.Core.Path.{sym, ap, ap₂, ◌∙◌}
use Rattle.std.proofs.lemmas.Result.{err_from_is_err_and}
use Rattle.plan.specs.Value.{Refusal}
use Rattle.regulator.proofs.Laws.Deciding.{answered, hand_given}
use Rattle.regulator.proofs.Laws.Telling.{hand_told}
use Rattle.regulator.proofs.calls.run_hand_in.Goals as goal

pub returns-in_err-check_hand_in : goal.returns-in_err-check_hand_in
returns-in_err-check_hand_in c =
    let a = c.args in
    let p = err_from_is_err_and c.from_residual.result c.from_residual.ensures.1 in
    rw (p.1, p.2) (hand_told a.s a.p c.in_err-check_hand_in.field-0.0 c.in_err-check_hand_in.ensures)

pub returns : goal.returns
returns c =
    let a = c.args in
    ap₂ answered c.in_ok-check_hand_in.ensures c.let_wait-next.ensures
    ∙ sym (hand_given a.s a.p (sym (ap (λ (r : Refusal). r.refused) c.in_ok-check_hand_in.ensures)))
