-- `regulator::forecast::need` meets its contract.
-- Assumes nothing.
use Rattle.regulator.specs.Forecast.{need_of}
use Rattle.regulator.proofs.forecast.need.Goals as goal

pub returns-in-Unknown : goal.returns-in-Unknown
unfolding need_of
returns-in-Unknown c = rw c.in-Unknown.is

pub returns-in-Known : goal.returns-in-Known
unfolding need_of
returns-in-Known c = rw (c.in-Known.is, c.lowest_above.ensures)
