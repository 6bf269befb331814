-- `regulator::calls::slot` meets its contract: 30, or the call on a state that adds up.
-- Assumes nothing.
use mathlib.Core.Path.{sym}
use lib.ListN.{length}
use Rattle.regulator.specs.declared.faults.SlotFault.{SlotFault}
use Rattle.regulator.proofs.Laws.Refusing.{slot_unsound}
use Rattle.regulator.proofs.Laws.Telling.{slot_told, shown_told}
use Rattle.regulator.proofs.calls.slot.Goals as goal

pub returns-then-not-adds_up-clause-answer : goal.returns-then-not-adds_up-clause-answer
returns-then-not-adds_up-clause-answer c =
    let a = c.args in
    slot_told a.s a.offers.now (length a.verdicts.now) SlotFault.Unsound (sym (slot_unsound a.s a.offers.now (length a.verdicts.now) (sym c.if-not-adds_up.ensures)))

pub returns-then-not-adds_up-clause-shown : goal.returns-then-not-adds_up-clause-shown
returns-then-not-adds_up-clause-shown c =
    let a = c.args in
    shown_told a.s a.offers.now a.verdicts.now SlotFault.Unsound (sym (slot_unsound a.s a.offers.now (length a.verdicts.now) (sym c.if-not-adds_up.ensures)))
