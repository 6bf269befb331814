-- `regulator::grant::on_stock` meets its contract.
-- Assumes nothing.
use Rattle.std.proofs.Common.{rules}
use Rattle.table.specs.Sums.{raised, lowered}
use Rattle.regulator.proofs.grant.on_stock.Goals as goal

pub returns : goal.returns
unfolding raised lowered
returns c = search rules
