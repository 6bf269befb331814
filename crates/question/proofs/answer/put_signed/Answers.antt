-- `question::answer::put_signed` meets its contract: the sign, and the size.
-- Assumes nothing.
use mathlib.Core.Path.{sym, ap, ◌∙◌}
use Prim.Native.Char.{code}
use mir.Syntax.{w32}
use mir.Val.{SFits}
use mir.Facts.{to_z-of_z}
use Rattle.table.proofs.Tables.{miss, hit}
use Rattle.script.specs.Text.{decimal, field}
use Rattle.script.proofs.Laws.Putting.{puts_as}
use Rattle.question.specs.Answer.{signed}
use borrow.Author.Rules.{rules}
use Rattle.question.proofs.answer.put_signed.Goals as goal

pub returns-then-z-lt0 : goal.returns-then-z-lt0
unfolding signed
returns-then-z-lt0 c =
    let fits : SFits w32 c.args.z = search rules in
    let e = to_z-of_z fits in
    let n = rw e at c.size.ensures in
    puts_as (ap (field (code "-")) n ∙ sym (hit _ _ _ (rw e at c.if-z-lt0.true))) c.put_field.ensures

pub returns-else-z-lt0 : goal.returns-else-z-lt0
unfolding signed
returns-else-z-lt0 c =
    let fits : SFits w32 c.args.z = search rules in
    let e = to_z-of_z fits in
    let n = rw e at c.size-else-z-lt0.ensures in
    puts_as (ap decimal n ∙ sym (miss _ _ _ (rw e at c.if-z-lt0.false))) c.put_number.ensures
