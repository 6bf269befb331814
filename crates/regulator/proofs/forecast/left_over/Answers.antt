-- `regulator::forecast::left_over` meets its contract: what is left over is filled in from the front.
-- Assumes nothing.
use native.Mathlib.Omega.{arith}
use borrow.Author.Rules.{rules}
use lib.ListN.{replicate}
use Rattle.table.proofs.Filling.{filled_from, filled_on, filled_whole}
use Rattle.regulator.proofs.forecast.left_over.Invariants.{left}
use Rattle.regulator.proofs.forecast.left_over.Goals as goal

pub loop-k-init : goal.loop-k-init
loop-k-init c = filled_from (left c.args.q c.args.claims) 16 (replicate 16 0) (search rules)

pub loop-k-preserved : goal.loop-k-preserved
loop-k-preserved c =
    filled_on (left c.args.q c.args.claims) 16 c.loop-k.yields c.loop-k.k _ c.loop-k-test.true c.loop-k.invariant c.saturating_sub.ensures

pub returns : goal.returns
returns c = filled_whole (left c.args.q c.args.claims) 16 c.loop-k.yields c.loop-k.k (omega arith) c.loop-k.invariant
