-- `script::output::Text::put_bytes` meets its contract: what is left of the text goes behind what was put.
-- Assumes nothing.
use lib.ListN.{take}
use Rattle.script.specs.Output.{Puts}
use Rattle.script.proofs.output.Text.put_bytes.Given as goal

abbrev pub invariant-loop-b : goal.invariant-loop-b
invariant-loop-b l = Puts l.initial.self l.self (take l.b-index l.bytes)
