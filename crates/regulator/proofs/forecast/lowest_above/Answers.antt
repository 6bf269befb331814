-- `regulator::forecast::lowest_above` meets its contract.
-- Assumes nothing.
use Rattle.std.proofs.Common.{rules, ◌≡◌, true, false, ◌∙◌}
use Rattle.std.proofs.lemmas.Iterator.{first_from_Range}
use borrow.Author.Tests.{tests}
use Rattle.regulator.specs.Forecast.{at_or_above}
use Rattle.regulator.proofs.Laws.Ranging.{lowest_told}
use Rattle.regulator.proofs.forecast.lowest_above.Goals as goal

pub returns : goal.returns
returns c =
    let f = at_or_above c.args.z in
    c.unwrap_or.ensures
    ∙ lowest_told f c.args.q c.find.result
    (first_from_Range _ _ _ c.find.result (λ k. f k ≡ true) (λ k. f k ≡ false) c.find.ensures.ran
    (λ x q k. search (rules, tests)) (λ x q k. search (rules, tests)))
