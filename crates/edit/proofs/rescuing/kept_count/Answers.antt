-- `edit::rescuing::kept_count` meets its contract: what remains of the records not dropped yet is what remains of all.
-- Assumes nothing.
use mathlib.Core.Path.{◌≡◌, sym, ap, ◌∙◌}
use Prim.Native.Nat.{◌+◌, ◌-◌, suc, ◌≤◌, ◌<◌}
use native.Mathlib.Omega.{arith}
use borrow.Author.Rules.{rules}
use lib.ListN.{length}
use Rattle.table.specs.Sums.{nth}
use Rattle.plan.specs.Records.{period_in}
use Rattle.plan.specs.declared.chain.Sums.{Sums}
use Rattle.plan.proofs.Laws.Reading.{head_whole}
use Rattle.plan.proofs.Laws.Telling.{at_most_sixteen}
use Rattle.edit.specs.Rescue.{remaining}
use Rattle.edit.proofs.Laws.Rescue.{sum_to, remaining_none, remaining_all, remaining_less}
use Rattle.edit.proofs.Laws.Listing.{told_count, told_sum}
use Rattle.edit.proofs.rescuing.kept_count.Goals as goal

pub u16_at-requires : goal.u16_at-requires
u16_at-requires c = omega (arith, (head_whole c.args.file.now c.requires).long)

pub loop-n-init : goal.loop-n-init
loop-n-init c =
    let s = c.args.file.now in
    let all = ap (λ (t : Sums). t.records) c.sums_told-sums.ensures ∙ told_count s c.requires in
    (omega (arith, all), ap (remaining s) all)

pub offset_bounds-sums-n : goal.offset_bounds-sums-n
offset_bounds-sums-n c =
    let room : c.loop-n.n ≤ 16 = omega (arith, c.loop-n.invariant.0, at_most_sixteen c.args.file.now) in
    omega (arith, room)

pub bounds-sums-n : goal.bounds-sums-n
bounds-sums-n c =
    let room : c.loop-n.n ≤ 16 = omega (arith, c.loop-n.invariant.0, at_most_sixteen c.args.file.now) in
    let long : length c.sums_told-sums.result.told ≡ 16 = search rules in
    omega (arith, room)

pub returns-then-sums-n : goal.returns-then-sums-n
returns-then-sums-n c =
    let compared : nth c.sums_told-sums.result.told (c.loop-n.n - 1) ≡ sum_to c.args.file.now c.loop-n.n =
    let v = c.loop-n in
    ap (λ (t : Sums). nth t.told (v.n - 1)) c.sums_told-sums.ensures ∙ told_sum c.args.file.now v.n c.requires c.loop-n-test.true v.invariant.0 in
    let v = c.loop-n in
    let up : v.n - 1 + 1 ≡ v.n = omega (arith, c.loop-n-test.true) in
    up ∙ sym (remaining_all c.args.file.now v.n (omega (arith, compared, c.if-sums-n.true, c.from-period.ensures, c.u16_at.ensures))) ∙ v.invariant.1

pub loop-n-preserved : goal.loop-n-preserved
loop-n-preserved c =
    let compared : nth c.sums_told-sums.result.told (c.loop-n.n - 1) ≡ sum_to c.args.file.now c.loop-n.n =
    let v = c.loop-n in
    ap (λ (t : Sums). nth t.told (v.n - 1)) c.sums_told-sums.ensures ∙ told_sum c.args.file.now v.n c.requires c.loop-n-test.true v.invariant.0 in
    let v = c.loop-n in
    let s = c.args.file.now in
    let low = c.loop-n-test.true in
    let up : v.n ≡ suc (v.n - 1) = omega (arith, low) in
    let over : period_in s < sum_to s (suc (v.n - 1)) = omega (arith, ap (sum_to s) up, compared, c.if-sums-n.false, c.from-period.ensures, c.u16_at.ensures) in
    (omega (arith, v.invariant.0), sym (ap (remaining s) up ∙ remaining_less s (v.n - 1) over) ∙ v.invariant.1)

pub returns : goal.returns
returns c =
    let s = c.args.file.now in
    let none : c.loop-n.n ≡ 0 = omega (arith, c.loop-n-test.false) in
    sym (remaining_none s) ∙ ap (remaining s) (sym none) ∙ c.loop-n.invariant.1
