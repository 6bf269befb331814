-- `script::line::figure` meets its contract.
-- Assumes nothing.
use Rattle.script.proofs.Laws.Reading.{digit_least}
use borrow.Author.Rules.{rules}
use Rattle.script.proofs.line.figure.Goals as goal

pub overflow_sub-result : goal.overflow_sub-result
overflow_sub-result c = (digit_least c.args.b (search rules)).0
