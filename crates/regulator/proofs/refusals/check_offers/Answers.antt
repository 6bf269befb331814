-- `regulator::refusals::check_offers` meets its contract.
-- Assumes nothing.
use Rattle.std.proofs.Common.{rules}
use borrow.Author.Tests.{tests}
use Rattle.regulator.specs.Refusals.{offers_refusal}
use Rattle.regulator.proofs.refusals.check_offers.Goals as goal

pub returns-then-offers-ne17 : goal.returns-then-offers-ne17
unfolding offers_refusal
returns-then-offers-ne17 c = search (rules, tests)

pub returns-then-any_above_two : goal.returns-then-any_above_two
unfolding offers_refusal
returns-then-any_above_two c = search (rules, tests)

pub returns-then-any_unplanned : goal.returns-then-any_unplanned
unfolding offers_refusal
returns-then-any_unplanned c = search (rules, tests)

pub returns : goal.returns
unfolding offers_refusal
returns c = search (rules, tests)
