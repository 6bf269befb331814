-- `edit::compacting::gather` meets its contract: the records passed are gathered.
-- Assumes nothing.
use mathlib.Core.Path.{◌≡◌, ap, ◌∙◌}
use Prim.Native.Nat.{◌+◌, ◌*◌, ◌≤◌, ◌<◌}
use native.Mathlib.Omega.{arith}
use borrow.Author.Rules.{rules}
use lib.ListN.{length}
use Rattle.plan.specs.Records.{record_at}
use Rattle.plan.proofs.Laws.Filing.{filled_none, filled_more}
use Rattle.edit.proofs.Laws.Listing.{entry, entry_in}
use Rattle.edit.proofs.Laws.Writing.{gathers}
use Rattle.edit.proofs.compacting.gather.Goals as goal

pub loop-k-init : goal.loop-k-init
loop-k-init c = (search rules, search rules, filled_none _ _)

pub record_part-requires : goal.record_part-requires
record_part-requires c = omega (arith, entry_in _ _ _ c.requires.1 c.requires.0 c.loop-k.k (omega (arith, c.loop-k-test.true)))

pub copy_record-bytes-requires : goal.copy_record-bytes-requires
copy_record-bytes-requires c = c.record_part.ensures.1

pub slice_bounds-store-end : goal.slice_bounds-store-end
slice_bounds-store-end c =
    let room : c.loop-k.k < 17 = omega (arith, c.args.l.few, c.loop-k-test.true) in
    let v = c.loop-k.invariant in
    omega (arith, v.2.same, v.1, room)

pub loop-k-preserved : goal.loop-k-preserved
loop-k-preserved c =
    let room : c.loop-k.k < 17 = omega (arith, c.args.l.few, c.loop-k-test.true) in
    let v = c.loop-k in
    let room' : 16 * v.k + 16 ≤ length v.store = omega (arith, v.invariant.2.same, v.invariant.1, room) in (
      omega (arith, c.loop-k-test.true),
      v.invariant.1,
      filled_more _ _ _ _ v.invariant.2 _ room' (search rules)
          (c.put_record.ensures ∙ c.copy_record-bytes.ensures ∙ c.record_part.ensures.0
          ∙ ap (record_at c.args.file.now) (entry _ _ _ c.requires.1 v.k (omega (arith, c.loop-k-test.true)))),
    )

pub returns : goal.returns
returns c =
    let v = c.loop-k in
    let all : v.k ≡ c.args.l.count + 1 = omega arith in
    gathers _ _ _ c.requires.1 c.requires.0 _ _ _ v.invariant.2 all
