-- `plan::chain::not_walked` meets its contract.
-- Assumes nothing.
use mathlib.Core.List.{[]}
use Rattle.table.specs.Members.{has}
use Rattle.table.specs.Ranges.{values_below}
use Rattle.plan.specs.Value.{number}
use Rattle.plan.specs.Walk.{seen_at}
use Rattle.plan.proofs.chain.not_walked.Goals as goal

pub returns : goal.returns
unfolding has values_below
returns c =
    λ i. record { refused = number c.args.fault; place = 0; gathered = c.nothing_gathered-gathered.ensures i; seen = seen_at [] }
