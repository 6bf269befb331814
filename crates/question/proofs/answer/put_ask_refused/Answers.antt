-- `question::answer::put_ask_refused` meets its contract.
-- Assumes nothing.
use Rattle.script.proofs.Laws.Putting.{puts_then, puts_field}
use Rattle.question.specs.Answer.{ask_refused_text}
use Rattle.question.proofs.answer.put_ask_refused.Goals as goal

pub returns : goal.returns
unfolding ask_refused_text
returns c =
    puts_then c.put_bytes.ensures (puts_then (puts_field c.from.ensures c.put_field.ensures) c.put_byte.ensures)
