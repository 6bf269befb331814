-- `question::answer::put_blocked` meets its contract.
-- Assumes nothing.
use mir.Syntax.{w32}
use mir.Val.{SFits}
use mir.Facts.{to_z-of_z}
use borrow.Author.Rules.{rules}
use Rattle.script.proofs.Laws.Putting.{puts_then}
use Rattle.question.specs.Answer.{cause_text}
use Rattle.question.proofs.answer.put_blocked.Goals as goal

pub returns : goal.returns
unfolding cause_text
returns c =
    let fits : SFits w32 c.args.loose = search rules in
    puts_then c.put_byte.ensures (puts_then (rw (to_z-of_z fits) at c.put_signed.ensures) c.put_field.ensures)
