-- `engine::calls::check` meets its contract.
-- Assumes nothing.
use mathlib.Core.Path.{sym}
use Rattle.regulator.proofs.Laws.Refusing.{slot_unsound}
use Rattle.engine.proofs.calls.check.Goals as goal

pub returns-then-not-adds_up : goal.returns-then-not-adds_up
returns-then-not-adds_up c =
    let a = c.args in
    sym (slot_unsound a.s a.offers.now a.room (sym c.if-not-adds_up.ensures))
