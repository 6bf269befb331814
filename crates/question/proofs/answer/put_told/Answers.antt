-- `question::answer::put_told` meets its contract.
-- Assumes nothing.
use Rattle.script.proofs.Laws.Putting.{puts_then, puts_number}
use Rattle.question.specs.Answer.{told_text}
use Rattle.question.proofs.answer.put_told.Goals as goal

pub returns : goal.returns
unfolding told_text
returns c =
    puts_then (puts_number c.from.ensures c.put_number.ensures) (puts_then c.put_cause.ensures c.put_byte.ensures)
