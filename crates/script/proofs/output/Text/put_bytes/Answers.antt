-- `script::output::Text::put_bytes` meets its contract: the bytes so far are put.
-- Assumes nothing.
use mathlib.Core.Path.{sym}
use native.Mathlib.Numerals.{add-one}
use lib.Seq.{take-suc, take_all}
use Rattle.script.proofs.Laws.Putting.{puts_none, puts_then, puts_as}
use Rattle.script.proofs.output.Text.put_bytes.Goals as goal

pub loop-b-init : goal.loop-b-init
loop-b-init c = puts_none _

pub loop-b-preserved : goal.loop-b-preserved
loop-b-preserved c =
    let l = c.args.bytes.now in
    puts_as (sym (rw (add-one) (take-suc l c.loop-b.b-index 0 c.loop-b-test.true))) (puts_then c.loop-b.invariant c.put_byte.ensures)

pub returns : goal.returns
returns c = puts_as (take_all _ c.args.bytes.now c.loop-b-test.false) c.loop-b.invariant
