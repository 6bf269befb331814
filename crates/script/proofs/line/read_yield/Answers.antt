-- `script::line::read_yield` meets its contract.
-- Assumes nothing.
use mathlib.Core.Path.{sym, ◌∙◌}
use Rattle.script.proofs.Laws.Reading.{yield_read, yield_unread}
use Rattle.script.proofs.line.read_yield.Goals as goal

pub returns-in_default : goal.returns-in_default
returns-in_default c = λ _. yield_unread c.args.rest.now (sym c.read_numbers.ensures ∙ c.in_default.is)

pub returns : goal.returns
returns c = λ _. yield_read c.args.rest.now c.in-Some.n (sym c.read_numbers.ensures ∙ c.in-Some.is)
