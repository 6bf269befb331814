-- `regulator::forecast::start_claims` meets its contract: the needs are filled in from the front.
-- Assumes nothing.
use Rattle.table.proofs.Filling.{Filled}
use Rattle.regulator.specs.Forecast.{need_at}
use Rattle.regulator.proofs.forecast.start_claims.Given as goal

abbrev pub invariant-loop-k : goal.invariant-loop-k
invariant-loop-k l = Filled (need_at l.q l.tracked) 16 l.claims l.k
