-- `edit::records::write_record` meets its contract.
-- Assumes nothing.
use mathlib.Core.Path.{ap, ◌∙◌}
use mathlib.Core.List.{List}
use Prim.Native.Nat.{ℕ, ◌+◌, ◌-◌, ◌*◌}
use borrow.Rule.Slice.PartMut.{put_mid}
use Rattle.edit.proofs.Laws.Storing.{put_laid}
use borrow.Author.Rules.{rules}
use Rattle.edit.proofs.records.write_record.Goals as goal

pub returns : goal.returns
returns c =
    let s = c.args.file.now in
    let k = c.args.k in
    ap (λ (r : List ℕ). put_mid (16 * k) (16 * k + 16 - 16 * k) s r) c.put_record.ensures
    ∙ put_laid s k c.args.bytes c.requires.0 c.requires.1 (search rules)
