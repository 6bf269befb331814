-- `regulator::forecast::close_all` meets its contract: the estimates are filled in from the front.
-- Assumes nothing.
use Rattle.table.proofs.Filling.{Filled}
use Rattle.regulator.specs.Forecast.{closed_at}
use Rattle.regulator.proofs.forecast.close_all.Given as goal

abbrev pub invariant-loop-k : goal.invariant-loop-k
invariant-loop-k l = Filled (closed_at l.marked l.tracked l.reserved l.reclaimed) 16 l.next l.k
