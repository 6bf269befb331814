-- `regulator::calls::hand_in` meets its contract: 30, or the call on a state that adds up.
-- Assumes nothing.
use mathlib.Core.Path.{sym}
use Rattle.regulator.specs.declared.faults.HandFault.{HandFault}
use Rattle.regulator.proofs.Laws.Refusing.{hand_unsound}
use Rattle.regulator.proofs.Laws.Telling.{hand_told}
use Rattle.regulator.proofs.calls.hand_in.Goals as goal

pub returns-then-not-adds_up : goal.returns-then-not-adds_up
returns-then-not-adds_up c =
    let a = c.args in
    hand_told a.s a.p HandFault.Unsound (sym (hand_unsound a.s a.p (sym c.if-not-adds_up.ensures)))
