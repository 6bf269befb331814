-- `regulator::forecast::close_all` meets its contract: the estimates are filled in from the front.
-- Assumes nothing.
use native.Mathlib.Omega.{arith}
use borrow.Author.Rules.{rules}
use Rattle.table.proofs.Filling.{filled_from, filled_on, filled_whole}
use Rattle.regulator.specs.Forecast.{closed_at}
use Rattle.regulator.proofs.forecast.close_all.Goals as goal

pub loop-k-init : goal.loop-k-init
loop-k-init c =
    let a = c.args in
    filled_from (closed_at a.marked a.tracked a.reserved a.reclaimed) 16 a.tracked (search rules)

pub loop-k-preserved : goal.loop-k-preserved
loop-k-preserved c =
    let a = c.args in
    filled_on (closed_at a.marked a.tracked a.reserved a.reclaimed) 16 c.loop-k.next c.loop-k.k _ c.loop-k-test.true c.loop-k.invariant
    (rw c.access_passes-c.ensures at c.after_close-t.ensures)

pub returns : goal.returns
returns c =
    let a = c.args in
    filled_whole (closed_at a.marked a.tracked a.reserved a.reclaimed) 16 c.loop-k.next c.loop-k.k (omega arith) c.loop-k.invariant
