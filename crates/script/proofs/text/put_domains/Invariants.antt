-- `script::text::put_domains` meets its contract: the domains so far are put.
-- Assumes nothing.
use Rattle.script.specs.Text.{domains_text}
use Rattle.script.specs.Output.{Puts}
use Rattle.script.proofs.text.put_domains.Given as goal

abbrev pub invariant-loop-j : goal.invariant-loop-j
invariant-loop-j l = Puts l.initial.text l.text (domains_text l.p l.c l.j)
