-- `edit::records::set_link` meets its contract.
-- Assumes nothing.
use mathlib.Core.Path.{ap, ◌∙◌}
use mathlib.Core.List.{List}
use Prim.Native.Nat.{ℕ}
use native.Mathlib.Omega.{arith}
use Rattle.edit.specs.Laying.{laid, relinked}
use Rattle.edit.specs.Inner.{replaced}
use Rattle.edit.proofs.Laws.Storing.{link_laid}
use Rattle.edit.proofs.records.set_link.Goals as goal

pub record_part-requires : goal.record_part-requires
record_part-requires c = omega (arith, c.requires.1)

pub copy_record-b-requires : goal.copy_record-b-requires
copy_record-b-requires c = c.record_part.ensures.1

pub write_record-requires : goal.write_record-requires
write_record-requires c = c.requires

pub returns : goal.returns
returns c =
    let s = c.args.file.now in
    let bytes = c.relink-bytes.ensures ∙ ap (relinked c.args.q c.args.l) (c.copy_record-b.ensures ∙ c.record_part.ensures.0) in
    c.write_record.ensures ∙ ap (λ (b : List ℕ). laid (replaced s c.args.q b) s) bytes
    ∙ link_laid s c.args.q c.args.l c.requires.0
