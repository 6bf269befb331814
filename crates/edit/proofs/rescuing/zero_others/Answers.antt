-- `edit::rescuing::zero_others` meets its contract: the records passed are kept or zeroed, and the bytes behind them as they were.
-- Assumes nothing.
use mathlib.Core.Path.{◌≡◌, sym, ap, subst, ◌∙◌}
use mathlib.Core.Bool.{not}
use mathlib.Core.List.{List}
use Prim.Native.Nat.{ℕ, ◌+◌, ◌*◌, ◌≤◌}
use native.Mathlib.Omega.{arith}
use borrow.Author.Rules.{rules}
use lib.ListN.{length}
use Rattle.table.proofs.Tables.{miss, hit}
use Rattle.plan.specs.Records.{record_count}
use Rattle.plan.proofs.Laws.Filing.{Filled, filled_none, filled_more}
use Rattle.edit.specs.Inner.{unlisted_in, listed_only}
use Rattle.edit.proofs.Laws.Storing.{laid_all, filled_keep, filled_behind}
use Rattle.edit.proofs.rescuing.zero_others.Goals as goal
use Rattle.edit.proofs.rescuing.zero_others.Goals.{then-not-is_listed, else-not-is_listed}

pub loop-k-init : goal.loop-k-init
loop-k-init c = (search rules, filled_none _ _)

pub slice_bounds-put_record-end : goal.slice_bounds-put_record-end
slice_bounds-put_record-end c =
    let room : 16 * c.loop-k.k + 16 ≤ length c.loop-k.file = let v = c.loop-k in omega (arith, v.invariant.1.same, c.loop-k-test.true) in
    room

pub loop-k-preserved : goal.loop-k-preserved
unfolding listed_only unlisted_in
loop-k-preserved c =
    let room : 16 * c.loop-k.k + 16 ≤ length c.loop-k.file = let v = c.loop-k in omega (arith, v.invariant.1.same, c.loop-k-test.true) in
    let v = c.loop-k in
    let s = c.args.file.now in
    let f : ℕ → List ℕ = listed_only s c.args.l.count c.args.l.records in
    let told = c.is_listed.ensures in (
      omega (arith, c.loop-k-test.true),
      elim c.if-not-is_listed.branch [
        | then-not-is_listed w ↦
            subst (λ (b : List ℕ). Filled f s b (v.k + 1)) (sym w.file-is)
            (filled_more f s v.file v.k v.invariant.1 _ room (search rules)
            (w.put_record.ensures ∙ sym (hit _ _ _ (ap not (sym told ∙ w.if-not-is_listed.true)))))
        | else-not-is_listed w ↦
            subst (λ (b : List ℕ). Filled f s b (v.k + 1)) (sym w.file-is)
            (filled_keep f s v.file v.k v.invariant.1
            (filled_behind f s v.file v.k v.invariant.1 v.k (omega arith) ∙ sym (miss _ _ _ (ap not (sym told ∙ w.if-not-is_listed.false)))))
      ],
    )

pub shape_of-file : goal.shape_of-file
shape_of-file c = c.loop-k.invariant.1.same

pub returns : goal.returns
returns c =
    let all : c.loop-k.k ≡ record_count c.args.file.now = omega (arith, c.loop-k.invariant.0) in
    laid_all _ _ _ _ c.loop-k.invariant.1 all c.requires
