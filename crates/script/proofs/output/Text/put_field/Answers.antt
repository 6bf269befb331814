-- `script::output::Text::put_field` meets its contract.
-- Assumes nothing.
use Rattle.script.proofs.Laws.Putting.{puts_then}
use Rattle.script.proofs.output.Text.put_field.Goals as goal

pub returns : goal.returns
returns c = puts_then c.put_byte.ensures c.put_number.ensures
