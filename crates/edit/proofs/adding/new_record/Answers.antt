-- `edit::adding::new_record` meets its contract: numbers of a domain that is in range fit two bytes.
-- Assumes nothing.
use Prim.Native.Nat.{ℕ, ◌≤◌}
use native.Mathlib.Omega.{arith}
use borrow.Author.Tests.{ltb-false}
use Rattle.plan.specs.declared.value.Domain.{Domain}
use Rattle.plan.proofs.Laws.Values.{above_fits}
use Rattle.plan.proofs.Laws.Holding.{Fine}
use Rattle.edit.proofs.adding.new_record.Goals as goal

-- the four numbers are at most the period
small : (P : ℕ) (d : Domain) → Fine P d → (d.reservation ≤ P) × (d.reclaimcap ≤ P) × (d.writebackcap ≤ P) × (d.writebackreservation ≤ P)
small P d f =
    let r = above_fits P d.reservation d.reclaimcap d.writebackcap f.range in
    (r.0, r.1, r.2, omega (arith, r.2, ltb-false d.writebackcap d.writebackreservation f.capped))

pub overflow_cast-domain-2 : goal.overflow_cast-domain-2
overflow_cast-domain-2 c = omega (arith, (small _ _ c.requires).0, c.ranges.period)

pub overflow_cast-domain-3 : goal.overflow_cast-domain-3
overflow_cast-domain-3 c = omega (arith, (small _ _ c.requires).1, c.ranges.period)

pub overflow_cast-domain-4 : goal.overflow_cast-domain-4
overflow_cast-domain-4 c = omega (arith, (small _ _ c.requires).2, c.ranges.period)

pub overflow_cast-domain-5 : goal.overflow_cast-domain-5
overflow_cast-domain-5 c = omega (arith, (small _ _ c.requires).3, c.ranges.period)
