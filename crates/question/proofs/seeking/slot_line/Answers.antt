-- `question::seeking::slot_line` meets its contract: the line is refused, decides the slot, or decides one before it.
-- Assumes nothing.
use mathlib.Core.Path.{sym, ap, ◌∙◌}
use Prim.Native.Nat.{◌-◌}
use Rattle.regulator.specs.Calls.{answer_by}
use Rattle.regulator.specs.declared.state.State.{State}
use Rattle.regulator.specs.declared.close.Slot.{Slot}
use Rattle.regulator.proofs.Laws.Telling.{slot_numbered, told_number, told_state}
use Rattle.question.specs.Inner.{onward}
use Rattle.question.proofs.Laws.Searching.{slot_over, slot_found, slot_onward}
use Rattle.question.proofs.seeking.slot_line.Goals as goal

pub returns-in-Err : goal.returns-in-Err
returns-in-Err c =
    let a = c.args in
    c.over.ensures ∙ sym (slot_over a.q a.offers a.next _ (ap (answer_by a.q.state) (sym c.in-Err.is) ∙ c.run_slot.ensures) (slot_numbered c.in-Err.field-0))

pub returns-in-Ok : goal.returns-in-Ok
returns-in-Ok c =
    let a = c.args in
    let d = c.in-Ok.field-0 in
    c.found.ensures
    ∙ sym (slot_found a.q a.offers a.next _ (ap (answer_by a.q.state) (sym c.in-Ok.is) ∙ c.run_slot.ensures) (told_number d.state d.steps d.counts) c.if-q-eq1.true)

pub returns-in-Ok-2 : goal.returns-in-Ok-2
returns-in-Ok-2 c =
    let a = c.args in
    let d = c.in-Ok-2.slot in
    c.onward.ensures
    ∙ ap (λ (t : Slot). onward a.q t.state (a.q.left - 1) a.next) c.in-Ok-2.slot-is
    ∙ ap (λ (t : State). onward a.q t (a.q.left - 1) a.next) (sym (told_state d.state d.steps d.counts))
    ∙ sym (slot_onward a.q a.offers a.next _ (ap (answer_by a.q.state) (sym c.in-Ok-2.is) ∙ c.run_slot.ensures) (told_number d.state d.steps d.counts) c.if-q-eq1.false)
