-- `cause::explaining::granted` meets its contract.
-- Assumes nothing.
use Rattle.std.proofs.Common.{rules, ◌≡◌, true, false, ◌∙◌}
use borrow.Author.Tests.{tests}
use lib.Dec.{eqb}
use Rattle.std.proofs.lemmas.Iterator.{YieldsList-from_slice, IsFirst-from_position}
use Rattle.regulator.proofs.Laws.Ranging.{lowest_told_of}
use Rattle.cause.proofs.explaining.granted.Goals as goal

pub returns : goal.returns
returns c =
    let v = c.args.verdicts.now in
    c.unwrap_or.ensures
    ∙ lowest_told_of (λ x. eqb x 1) v 17 (search rules) c.position.result
    (IsFirst-from_position _ _ c.position.result (λ x. eqb x 1 ≡ true) (λ x. eqb x 1 ≡ false) c.position.ensures.ran (YieldsList-from_slice v cc)
    (λ x q k. search (rules, tests)) (λ x q k. search (rules, tests)))
