-- `regulator::state::no_state` meets its contract.
-- Assumes nothing.
use native.Mathlib.Omega.{arith}
use mathlib.Core.Path.{ap}
use Rattle.table.specs.Sums.{sum}
use Rattle.table.proofs.Elements.{sum_zeros}
use Rattle.plan.specs.declared.value.Plan.{Plan}
use Rattle.regulator.proofs.state.no_state.Goals as goal

pub begin-requires : goal.begin-requires
begin-requires c = omega (arith, ap (λ (p : Plan). sum p.reservation) c.no_domains.ensures, sum_zeros 16)

pub returns : goal.returns
returns c = rw (c.begin.ensures, c.no_domains.ensures, c.no_estimates.ensures)
