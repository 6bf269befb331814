-- `question::answer::put_totals` meets its contract.
-- Assumes nothing.
use Rattle.script.proofs.Laws.Putting.{puts_then, puts_field}
use Rattle.question.specs.Answer.{cause_text}
use Rattle.question.proofs.answer.put_totals.Goals as goal

pub returns : goal.returns
unfolding cause_text
returns c =
    puts_then (puts_field c.from.ensures c.put_field.ensures) (puts_field c.from-2.ensures c.put_field-2.ensures)
