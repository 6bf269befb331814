-- `script::text::put_refused` meets its contract.
-- Assumes nothing.
use Rattle.script.specs.Text.{refused_text}
use Rattle.script.proofs.Laws.Putting.{puts_then}
use Rattle.script.proofs.text.put_refused.Goals as goal

pub returns : goal.returns
unfolding refused_text
returns c =
    puts_then c.put_bytes.ensures
    (puts_then c.put_field.ensures (puts_then c.put_bytes-2.ensures (puts_then c.put_field-2.ensures c.put_byte.ensures)))
