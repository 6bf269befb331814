-- `regulator::state::adds_up` meets its contract.
-- Assumes nothing.
use Rattle.std.proofs.Common.{rules, ◌≡◌, eqb, ◌∙◌}
use borrow.Author.Tests.{tests}
use Rattle.plan.specs.Value.{plan_refusal}
use Rattle.regulator.specs.State.{adds_up}
use Rattle.regulator.proofs.Laws.Telling.{accepted_told}
use Rattle.regulator.proofs.state.adds_up.Goals as goal

pub returns-then-waiting_adds_up : goal.returns-then-waiting_adds_up
unfolding adds_up
returns-then-waiting_adds_up c =
    let plan : c.is_ok.result ≡ eqb (plan_refusal c.args.s.plan).refused 0 = c.is_ok.ensures.value ∙ accepted_told c.args.s.plan c.check.result c.check.ensures in
    search (rules, tests)

pub returns-else-waiting_adds_up : goal.returns-else-waiting_adds_up
unfolding adds_up
returns-else-waiting_adds_up c =
    let plan : c.is_ok.result ≡ eqb (plan_refusal c.args.s.plan).refused 0 = c.is_ok.ensures.value ∙ accepted_told c.args.s.plan c.check.result c.check.ensures in
    search (rules, tests)
