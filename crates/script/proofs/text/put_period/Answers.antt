-- `script::text::put_period` meets its contract.
-- Assumes nothing.
use Rattle.script.specs.Text.{period_text}
use Rattle.script.proofs.Laws.Putting.{puts_then, puts_number, puts_field}
use Rattle.script.proofs.text.put_period.Goals as goal

pub returns : goal.returns
unfolding period_text
returns c =
    puts_then (puts_number c.from.ensures c.put_number.ensures)
    (puts_then (puts_field c.from-2.ensures c.put_field.ensures)
    (puts_then (puts_field c.from-3.ensures c.put_field-2.ensures)
    (puts_then c.put_domains.ensures c.put_steps.ensures)))
