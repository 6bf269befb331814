-- `regulator::verdict::lowest_waiting` meets its contract.
-- Assumes nothing.
use Rattle.std.proofs.Common.{rules, ◌≡◌, true, false}
use borrow.Author.Tests.{tests}
use Rattle.std.proofs.lemmas.Iterator.{first_from_Range}
use Rattle.regulator.specs.Verdict.{waiting}
use Rattle.regulator.proofs.Laws.Ranging.{lowest_told}
use Rattle.regulator.proofs.verdict.lowest_waiting.Goals as goal

pub returns-clause-lowest : goal.returns-clause-lowest
unfolding waiting
returns-clause-lowest c =
    let f = waiting c.args.s c.args.offers.now in
    lowest_told f 16 c.find.result
    (first_from_Range _ _ _ c.find.result (λ k. f k ≡ true) (λ k. f k ≡ false) c.find.ensures.ran
    (λ x q k. search (rules, tests)) (λ x q k. search (rules, tests)))
