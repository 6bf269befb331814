-- `plan::writing::put_records` meets its contract: the records passed are written, and the bytes behind them as they were.
-- Assumes nothing.
use mathlib.Core.Path.{◌≡◌, ap, ◌∙◌}
use Prim.Native.Nat.{ℕ, ◌+◌, ◌*◌, ◌≤◌}
use native.Mathlib.Omega.{arith}
use mathlib.Core.List.{◌++◌}
use borrow.Author.Rules.{rules}
use lib.ListN.{length, drop}
use Rattle.plan.specs.Writing.{record_of, records_from}
use Rattle.plan.proofs.Laws.Filing.{filled_none, filled_more, filled_all}
use Rattle.plan.proofs.writing.put_records.Goals as goal

pub loop-k-init : goal.loop-k-init
loop-k-init c = (search rules, filled_none _ _)

pub slice_bounds-put_record-end : goal.slice_bounds-put_record-end
slice_bounds-put_record-end c = omega (arith, c.loop-k.invariant.1.same, c.requires.1, c.loop-k-test.true)

pub loop-k-preserved : goal.loop-k-preserved
loop-k-preserved c =
    let room : 16 * c.loop-k.k + 16 ≤ length c.loop-k.buffer = omega (arith, c.loop-k.invariant.1.same, c.requires.1, c.loop-k-test.true) in
    (omega arith, filled_more _ _ _ _ c.loop-k.invariant.1 _ room (search rules) (c.put_record.ensures ∙ c.record_bytes-bytes.ensures))

pub shape_of-buffer : goal.shape_of-buffer
shape_of-buffer c = c.loop-k.invariant.1.same

pub returns : goal.returns
returns c =
    let a = c.args in
    let all : c.loop-k.k ≡ a.l.count + 1 = omega arith in
    filled_all _ _ _ _ c.loop-k.invariant.1
    ∙ ap (λ (k : ℕ). records_from (record_of a.period a.l.count a.l.domains) 0 k ++ drop (16 * k) a.buffer.now) all
