-- `regulator::state::domains_add_up` meets its contract.
-- Assumes nothing.
use Rattle.std.proofs.Common.{rules, ◌≡◌, true, false, refl}
use borrow.Author.Tests.{tests}
use Rattle.std.proofs.lemmas.Iterator.{YieldsList-from_range, cases_from_all}
use Rattle.regulator.specs.State.{domain_adds_up}
use Rattle.regulator.proofs.Laws.Ranging.{every_told}
use Rattle.regulator.proofs.state.domains_add_up.Goals as goal

pub returns : goal.returns
returns c =
    let f = domain_adds_up c.args.s.now in
    every_told f 16 c.all.result
    (cases_from_all _ _ _ (λ k. f k ≡ true) (λ k. f k ≡ false) c.all.ensures.ran (YieldsList-from_range 0 16 16 refl refl)
    (λ x q k. search (rules, tests)) (λ x q k. search (rules, tests)))
