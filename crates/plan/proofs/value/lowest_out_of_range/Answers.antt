-- `plan::value::lowest_out_of_range` meets its contract.
-- Assumes nothing.
use Rattle.std.proofs.Common.{◌≡◌, true, false, rules}
use borrow.Author.Tests.{tests}
use Rattle.std.proofs.lemmas.Iterator.{first_from_Range}
use Rattle.plan.specs.Value.{out_of_range}
use Rattle.plan.proofs.Laws.Values.{found_lowest}
use Rattle.plan.proofs.value.lowest_out_of_range.Goals as goal

pub returns : goal.returns
returns c =
    let f = out_of_range c.args.p in
    found_lowest f 16 _
    (first_from_Range _ _ _ _ (λ j. f j ≡ true) (λ j. f j ≡ false) c.find.ensures.ran
    (λ x q k. search (rules, tests)) (λ x q k. search (rules, tests)))
