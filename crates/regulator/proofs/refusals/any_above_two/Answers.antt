-- `regulator::refusals::any_above_two` meets its contract.
-- Assumes nothing.
use Rattle.std.proofs.Common.{rules, ◌≡◌, true, false}
use borrow.Author.Tests.{tests}
use Rattle.std.proofs.lemmas.Iterator.{YieldsList-from_slice, cases_from_any}
use lib.Dec.{ltb}
use Rattle.regulator.proofs.Laws.Ranging.{some_told_of}
use Rattle.regulator.proofs.refusals.any_above_two.Goals as goal

pub returns : goal.returns
returns c =
    some_told_of (ltb 2) c.args.offers.now 17 (search rules) c.any.result
    (cases_from_any _ _ _ (λ x. ltb 2 x ≡ true) (λ x. ltb 2 x ≡ false) c.any.ensures.ran (YieldsList-from_slice c.args.offers.now cc)
    (λ x q k. search (rules, tests)) (λ x q k. search (rules, tests)))
