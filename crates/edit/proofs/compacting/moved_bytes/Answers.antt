-- `edit::compacting::moved_bytes` meets its contract.
-- Assumes nothing.
use mathlib.Core.Path.{sym, ap₂, ◌∙◌}
use mathlib.Core.List.{List}
use Prim.Native.Nat.{ℕ}
use borrow.Author.Tests.{le-leb, lt-leb}
use Rattle.table.proofs.Tables.{hit, miss}
use Rattle.edit.specs.Laying.{relinked}
use Rattle.edit.proofs.compacting.moved_bytes.Goals as goal

pub returns-then-k-n : goal.returns-then-k-n
returns-then-k-n c =
    let a = c.args in
    c.relink.ensures
    ∙ ap₂ (λ (l : ℕ) (b : List ℕ). relinked a.k l b) c.next_index-next.ensures (c.copy_record-b.ensures ∙ c.record_part.ensures.0)
    ∙ sym (hit _ _ _ (le-leb a.k a.n c.if-k-n.true))

pub returns : goal.returns
returns c = sym (miss _ _ _ (lt-leb c.args.k c.args.n c.if-k-n.false))
