-- `edit::records::relink` meets its contract.
-- Assumes nothing.
use Rattle.edit.proofs.Laws.Storing.{store_first, store_other}
use borrow.Author.Rules.{rules}
use Rattle.edit.proofs.records.relink.Goals as goal

pub returns-then-k-eq0 : goal.returns-then-k-eq0
returns-then-k-eq0 c = let h = c.to_le_bytes-bytes.ensures in rw h (store_first c.args.k c.args.l c.args.b (search rules) c.if-k-eq0.true)

pub returns : goal.returns
returns c = let h = c.to_le_bytes-bytes.ensures in rw h (store_other c.args.k c.args.l c.args.b (search rules) c.if-k-eq0.false)
