-- `script::carrying::slot_step` meets its contract.
-- Assumes nothing.
use mathlib.Core.Path.{sym, ap, subst, ◌∙◌}
use Rattle.std.specs.Prelude.{Ok, Err}
use Rattle.std.proofs.lemmas.Result.{err_from_is_err_and}
use Rattle.regulator.specs.Calls.{answer_by}
use Rattle.script.specs.Line.{slot_line}
use Rattle.script.specs.Replay.{carried_out}
use Rattle.script.specs.Output.{shown}
use Rattle.script.specs.Inner.{Stepped}
use Rattle.script.specs.declared.output.Text.{Text}
use Rattle.script.proofs.Laws.Carrying.{step_period, step_silent, step_refused, stepped_as}
use Rattle.script.proofs.carrying.slot_step.Goals as goal
use Rattle.script.proofs.carrying.slot_step.Goals.{in-Some, in_default}

pub returns-in_err-slot-clause-stepped : goal.returns-in_err-slot-clause-stepped
returns-in_err-slot-clause-stepped c =
    let a = c.args in
    let p = err_from_is_err_and c.from_residual.result c.from_residual.ensures.1 in
    stepped_as (sym (p.1 ∙ ap Err p.2))
    (step_refused a.s a.offers.now _ (ap (answer_by a.s) (sym c.in_err-slot.was) ∙ c.run_slot.ensures) (shown a.text.now))

pub returns-clause-stepped : goal.returns-clause-stepped
returns-clause-stepped c =
    let a = c.args in
    let d = c.in_ok-slot.slot in
    let told = ap (answer_by a.s) (sym c.in_ok-slot.was) ∙ c.run_slot.ensures in
    let done = λ (t : Text). Stepped (carried_out a.s (slot_line a.offers.now)) a.s (Ok d.state) (shown a.text.now) (shown t) in
    elim c.match-slot.branch [
      | in-Some w ↦ subst done (sym w.text-is) (step_period a.s a.offers.now d told _ w.in-Some.is (shown a.text.now) (shown w.put_period.new.text) w.put_period.ensures.more)
      | in_default w ↦ subst done (sym w.text-is) (step_silent a.s a.offers.now d told w.in_default.is (shown a.text.now))
    ]
