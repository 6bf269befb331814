-- `edit::records::rewrite` meets its contract: the two writes are one file laid anew.
-- Assumes nothing.
use mathlib.Core.Path.{sym, ap, subst, ◌∙◌}
use mathlib.Core.List.{List}
use Prim.Native.Nat.{ℕ, ◌/◌, ◌<◌}
use lib.ListN.{length}
use Rattle.plan.proofs.Laws.Heads.{Whole}
use Rattle.edit.specs.Laying.{laid}
use Rattle.edit.specs.Inner.{replaced}
use Rattle.edit.proofs.Laws.Storing.{linked_length, rewrite_laid}
use Rattle.edit.proofs.records.rewrite.Goals as goal

pub set_link-requires : goal.set_link-requires
set_link-requires c =
    let v = c.requires in
    (v.0, v.1)

pub write_record-requires : goal.write_record-requires
write_record-requires c =
    let long = ap length c.set_link.ensures ∙ linked_length c.args.file.now c.args.q c.args.l c.requires.0 in
    (subst Whole (sym long) c.requires.0, subst (λ (n : ℕ). c.args.k < n / 16) (sym long) c.requires.2)

pub returns : goal.returns
returns c =
    let s = c.args.file.now in
    c.write_record.ensures ∙ ap (λ (t : List ℕ). laid (replaced t c.args.k c.args.bytes) t) c.set_link.ensures
    ∙ rewrite_laid s c.args.q c.args.l c.requires.0 c.args.k c.args.bytes
