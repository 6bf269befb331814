-- `script::text::put_domain` meets its contract.
-- Assumes nothing.
use Rattle.script.specs.Text.{domain_text}
use Rattle.script.proofs.Laws.Putting.{puts_then, puts_field}
use Rattle.script.proofs.text.put_domain.Goals as goal

pub returns : goal.returns
unfolding domain_text
returns c =
    puts_then c.put_field.ensures
    (puts_then (puts_field c.from.ensures c.put_field-2.ensures)
    (puts_then (puts_field c.from-2.ensures c.put_field-3.ensures)
    (puts_then (puts_field c.from-3.ensures c.put_field-4.ensures)
    (puts_field c.from-4.ensures c.put_field-5.ensures))))
