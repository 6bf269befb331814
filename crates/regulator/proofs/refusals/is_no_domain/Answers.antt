-- `regulator::refusals::is_no_domain` meets its contract.
-- Assumes nothing.
use Rattle.std.proofs.Common.{rules}
use borrow.Author.Tests.{tests}
use Rattle.std.proofs.Common.{sym, arith}
use Rattle.plan.specs.Value.{outside}
use Rattle.plan.proofs.Laws.Values.{within}
use Rattle.regulator.specs.Refusals.{no_domain}
use Rattle.regulator.proofs.refusals.is_no_domain.Goals as goal

pub returns-then-is_outside : goal.returns-then-is_outside
unfolding no_domain outside
returns-then-is_outside c = search (rules, tests)

pub returns-else-is_outside : goal.returns-else-is_outside
unfolding no_domain outside
returns-else-is_outside c = search (rules, tests)

pub overflow_sub-result : goal.overflow_sub-result
overflow_sub-result c = (within 16 c.args.domain (sym c.if-is_outside.ensures)).0

pub bounds-p-domain : goal.bounds-p-domain
bounds-p-domain c = let n = within 16 c.args.domain (sym c.if-is_outside.ensures) in omega (arith, n.0, n.1)
