-- `plan::chain::walk` meets its contract: the loop's invariant is `Walking`, and its measure the records not seen yet.
-- Assumes nothing.
use mathlib.Core.Path.{refl, ap, ◌∙◌}
use native.Mathlib.Omega.{arith}
use Rattle.plan.specs.Records.{domain_in, next_in}
use Rattle.plan.specs.declared.value.Domain.{Domain}
use Rattle.plan.proofs.Laws.Values.{number_some}
use Rattle.plan.proofs.Laws.Walking.{starts, ended, refused, took, fewer, sum_fits, onward}
use Rattle.plan.proofs.chain.walk.Goals as goal

pub loop-i-init : goal.loop-i-init
loop-i-init c =
    rw (c.nothing_gathered-gathered.ensures, c.u16_at-period.ensures) (starts _ _ c.u16_at-i.ensures (omega (arith, c.u16_at-i.type_inv)))

pub returns-in-Err : goal.returns-in-Err
returns-in-Err c =
    let faulty = rw (c.in-Err.is, c.from-at.ensures) at c.follow.ensures in
    refused c.loop-i.invariant _ _ c.loop-i-test.true c.u16_at-period.ensures faulty (number_some c.in-Err.fault)

pub record_part-b-requires : goal.record_part-b-requires
record_part-b-requires c =
    let taken = rw (c.in_default.is, c.from-at.ensures) at c.follow.ensures in
    omega (arith, (took c.loop-i.invariant _ _ c.loop-i-test.true c.u16_at-period.ensures taken refl).inside, c.from-at.ensures)

pub gather-gathered-requires : goal.gather-gathered-requires
gather-gathered-requires c =
    let taken = rw (c.in_default.is, c.from-at.ensures) at c.follow.ensures in
    let t = took c.loop-i.invariant _ _ c.loop-i-test.true c.u16_at-period.ensures taken refl in
    let e = ap (λ (d : Domain). d.number) (c.domain_in-d.ensures ∙ ap domain_in (rw c.from-at.ensures at c.record_part-b.ensures.0)) in
    record {
      le_number = (omega (arith, t.fine.low), omega (arith, t.fine.high));
      records_bound = sum_fits c.loop-i.invariant _ _ c.loop-i-test.true c.u16_at-period.ensures taken refl;
    }

pub bounds-seen-at : goal.bounds-seen-at
bounds-seen-at c =
    let taken = rw (c.in_default.is, c.from-at.ensures) at c.follow.ensures in
    let inside = (took c.loop-i.invariant _ _ c.loop-i-test.true c.u16_at-period.ensures taken refl).inside in
    omega (arith, inside, c.requires.1, c.from-at.ensures)

pub loop-i-smaller : goal.loop-i-smaller
loop-i-smaller c =
    let taken = rw (c.in_default.is, c.from-at.ensures) at c.follow.ensures in
    rw c.from-at.ensures (omega (arith, fewer c.loop-i.invariant _ _ c.loop-i-test.true c.u16_at-period.ensures taken refl c.requires.1))

pub loop-i-preserved : goal.loop-i-preserved
loop-i-preserved c =
    let taken = rw (c.in_default.is, c.from-at.ensures) at c.follow.ensures in
    let part = rw c.from-at.ensures at c.record_part-b.ensures.0 in
    rw (c.gather-gathered.ensures, c.from-at.ensures)
    (onward c.loop-i.invariant _ _ c.loop-i-test.true c.u16_at-period.ensures taken refl
    c.requires.1 _ _ (c.domain_in-d.ensures ∙ ap domain_in part) (omega (arith, c.domain_in-d.type_inv)) (c.u16_at-i-in-loop-i.ensures ∙ ap next_in part)
    (omega (arith, c.u16_at-i-in-loop-i.type_inv)))

pub returns : goal.returns
returns c = ended c.loop-i.invariant c.loop-i-test.false
