-- `regulator::calls::yield_claim` meets its contract: 30, or the call on a state that adds up.
-- Assumes nothing.
use mathlib.Core.Path.{sym}
use Rattle.regulator.specs.declared.faults.YieldFault.{YieldFault}
use Rattle.regulator.proofs.Laws.Refusing.{yield_unsound}
use Rattle.regulator.proofs.Laws.Telling.{yield_told}
use Rattle.regulator.proofs.calls.yield_claim.Goals as goal

pub returns-then-not-adds_up : goal.returns-then-not-adds_up
returns-then-not-adds_up c =
    let a = c.args in
    yield_told a.s a.domain a.k YieldFault.Unsound (sym (yield_unsound a.s a.domain a.k (sym c.if-not-adds_up.ensures)))
