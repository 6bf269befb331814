-- `script::text::put_steps` meets its contract.
-- Assumes nothing.
use Rattle.script.specs.Text.{steps_text}
use Rattle.script.proofs.Laws.Putting.{puts_then, puts_number}
use Rattle.script.proofs.text.put_steps.Goals as goal

pub returns : goal.returns
unfolding steps_text
returns c =
    puts_then c.put_bytes.ensures (puts_then (puts_number c.from.ensures c.put_number.ensures) c.put_byte.ensures)
