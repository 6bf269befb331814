-- `regulator::forecast::start_claims` meets its contract: the needs are filled in from the front.
-- Assumes nothing.
use native.Mathlib.Omega.{arith}
use borrow.Author.Rules.{rules}
use Rattle.table.proofs.Filling.{filled_from, filled_on, filled_whole}
use lib.ListN.{replicate}
use Rattle.regulator.specs.Forecast.{need_at}
use Rattle.regulator.proofs.forecast.start_claims.Goals as goal

pub loop-k-init : goal.loop-k-init
loop-k-init c = filled_from (need_at c.args.q c.args.tracked) 16 (replicate 16 0) (search rules)

pub loop-k-preserved : goal.loop-k-preserved
loop-k-preserved c =
    filled_on (need_at c.args.q c.args.tracked) 16 c.loop-k.claims c.loop-k.k _ c.loop-k-test.true c.loop-k.invariant c.need.ensures

pub returns : goal.returns
returns c = filled_whole (need_at c.args.q c.args.tracked) 16 c.loop-k.claims c.loop-k.k (omega arith) c.loop-k.invariant
