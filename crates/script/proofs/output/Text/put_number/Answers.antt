-- `script::output::Text::put_number` meets its contract.
-- Assumes nothing.
use mathlib.Core.Path.{sym, ◌∙◌}
use Rattle.script.proofs.Laws.Decimals.{decimal_is, decimal_small}
use Rattle.script.proofs.Laws.Putting.{puts_as}
use Rattle.script.proofs.output.Text.put_number.Goals as goal

pub returns-then-n-lt10 : goal.returns-then-n-lt10
returns-then-n-lt10 c = puts_as (sym (decimal_small c.args.n c.if-n-lt10.true)) c.put_byte.ensures

pub returns : goal.returns
returns c =
    let d = c.decimal-k.ensures in
    puts_as (d.digits ∙ sym (decimal_is c.args.n _ d.len)) c.put_bytes.ensures
