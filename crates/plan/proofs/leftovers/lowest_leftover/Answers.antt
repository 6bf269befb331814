-- `plan::leftovers::lowest_leftover` meets its contract: a search from record 1 on, since record 0 is no leftover.
-- Assumes nothing.
use Rattle.std.proofs.Common.{true, false, rules}
use borrow.Author.Tests.{tests}
use Rattle.std.proofs.lemmas.Iterator.{first_from_Range}
use Rattle.plan.proofs.Laws.Leftovers.{Flagged, left_lowest}
use Rattle.plan.proofs.leftovers.lowest_leftover.Goals as goal

pub returns : goal.returns
returns c =
    let s = c.args.file.now in
    left_lowest s c.args.seen c.requires.seen_value c.requires.in_bounds.1 _
    (first_from_Range _ _ _ _ (λ i. Flagged s c.args.seen i true) (λ i. Flagged s c.args.seen i false) c.find.ensures.ran
    (λ x q k. search (rules, tests)) (λ x q k. search (rules, tests)))
