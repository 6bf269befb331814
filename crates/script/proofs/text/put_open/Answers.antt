-- `script::text::put_open` meets its contract.
-- Assumes nothing.
use Rattle.script.specs.Text.{open_text}
use Rattle.script.proofs.Laws.Putting.{puts_then, puts_field}
use Rattle.script.proofs.text.put_open.Goals as goal

pub returns : goal.returns
unfolding open_text
returns c =
    puts_then c.put_bytes.ensures (puts_then (puts_field c.from.ensures c.put_field.ensures) c.put_byte.ensures)
