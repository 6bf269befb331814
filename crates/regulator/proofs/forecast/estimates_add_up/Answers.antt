-- `regulator::forecast::estimates_add_up` meets its contract.
-- Assumes nothing.
use Rattle.std.proofs.Common.{rules, ◌≡◌, true, false, refl}
use Rattle.std.proofs.lemmas.Iterator.{YieldsList-from_range, cases_from_all}
use borrow.Author.Tests.{tests}
use Rattle.regulator.specs.State.{estimate_adds_up}
use Rattle.regulator.proofs.Laws.Ranging.{every_told}
use Rattle.regulator.proofs.forecast.estimates_add_up.Goals as goal

pub returns : goal.returns
unfolding estimate_adds_up
returns c =
    let f = estimate_adds_up c.args.marked c.args.tracked in
    every_told f 16 c.all.result
    (cases_from_all _ _ _ (λ k. f k ≡ true) (λ k. f k ≡ false) c.all.ensures.ran (YieldsList-from_range 0 16 16 refl refl)
    (λ x q k. search (rules, tests)) (λ x q k. search (rules, tests)))
