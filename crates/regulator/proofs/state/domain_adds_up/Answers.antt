-- `regulator::state::domain_adds_up` meets its contract.
-- Assumes nothing.
use Rattle.std.proofs.Common.{rules}
use borrow.Author.Tests.{tests}
use Rattle.regulator.specs.State.{domain_adds_up, numbers_add_up}
use Rattle.regulator.proofs.state.domain_adds_up.Goals as goal

pub returns-then-s-j-2 : goal.returns-then-s-j-2
unfolding domain_adds_up numbers_add_up
returns-then-s-j-2 c = search (rules, tests)

pub returns-else-s-j-2 : goal.returns-else-s-j-2
unfolding domain_adds_up numbers_add_up
returns-else-s-j-2 c = search (rules, tests)
