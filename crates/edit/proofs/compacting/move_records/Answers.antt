-- `edit::compacting::move_records` meets its contract: the records passed are moved, and the bytes behind them as they were.
-- Assumes nothing.
use mathlib.Core.Path.{◌≡◌, ◌∙◌}
use Prim.Native.Nat.{◌+◌, ◌*◌, ◌≤◌}
use native.Mathlib.Omega.{arith}
use borrow.Author.Rules.{rules}
use lib.ListN.{length}
use Rattle.plan.specs.Records.{record_count}
use Rattle.plan.proofs.Laws.Filing.{filled_none, filled_more}
use Rattle.edit.proofs.Laws.Storing.{laid_all}
use Rattle.edit.proofs.Laws.Writing.{moved_is}
use Rattle.edit.proofs.compacting.move_records.Goals as goal

pub loop-k-init : goal.loop-k-init
loop-k-init c = (search rules, filled_none _ _)

pub moved_bytes-bytes-requires : goal.moved_bytes-bytes-requires
moved_bytes-bytes-requires c =
    let long : length c.args.store ≡ 272 = search rules in
    (c.requires.0, omega (arith, c.requires.1.short, c.loop-k-test.true), long)

pub slice_bounds-put_record-end : goal.slice_bounds-put_record-end
slice_bounds-put_record-end c = omega (arith, c.loop-k.invariant.1.same, c.loop-k-test.true)

pub loop-k-preserved : goal.loop-k-preserved
loop-k-preserved c =
    let k = c.loop-k.k in
    let room : 16 * k + 16 ≤ length c.loop-k.file = omega (arith, c.loop-k.invariant.1.same, c.loop-k-test.true) in (
      omega arith,
      filled_more _ _ _ _ c.loop-k.invariant.1 _ room (search rules)
          (c.put_record.ensures ∙ c.moved_bytes-bytes.ensures ∙ moved_is c.args.file.now c.args.n c.args.store c.requires.2 k),
    )

pub shape_of-file : goal.shape_of-file
shape_of-file c = c.loop-k.invariant.1.same

pub returns : goal.returns
returns c =
    let all : c.loop-k.k ≡ record_count c.args.file.now = omega (arith, c.loop-k.invariant.0) in
    laid_all _ _ _ _ c.loop-k.invariant.1 all c.requires.1
