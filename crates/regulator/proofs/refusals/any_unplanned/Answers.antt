-- `regulator::refusals::any_unplanned` meets its contract.
-- Assumes nothing.
use Rattle.std.proofs.Common.{rules, ◌≡◌, true, false, refl}
use borrow.Author.Tests.{tests}
use Rattle.std.proofs.lemmas.Iterator.{YieldsList-from_range, cases_from_any}
use Rattle.regulator.specs.Refusals.{unplanned}
use Rattle.regulator.proofs.Laws.Ranging.{some_told}
use Rattle.regulator.proofs.refusals.any_unplanned.Goals as goal

pub returns : goal.returns
returns c =
    let f = unplanned c.args.p c.args.offers.now in
    some_told f 16 c.any.result
    (cases_from_any _ _ _ (λ k. f k ≡ true) (λ k. f k ≡ false) c.any.ensures.ran (YieldsList-from_range 0 16 16 refl refl)
    (λ x q k. search (rules, tests)) (λ x q k. search (rules, tests)))
