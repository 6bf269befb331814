-- `regulator::state::waiting_adds_up` meets its contract.
-- Assumes nothing.
use Rattle.std.proofs.Common.{rules, ◌≡◌, eqb, ◌∙◌}
use borrow.Author.Tests.{tests}
use Rattle.plan.specs.Value.{plan_refusal}
use Rattle.regulator.specs.State.{waiting_adds_up}
use Rattle.regulator.proofs.Laws.Telling.{accepted_told}
use Rattle.regulator.proofs.state.waiting_adds_up.Goals as goal

pub returns-then-not-w : goal.returns-then-not-w
unfolding waiting_adds_up
returns-then-not-w c = search (rules, tests)

pub returns-else-not-w : goal.returns-else-not-w
unfolding waiting_adds_up
returns-else-not-w c =
    let plan : c.is_ok.result ≡ eqb (plan_refusal c.args.w.plan).refused 0 = c.is_ok.ensures.value ∙ accepted_told c.args.w.plan c.check.result c.check.ensures in
    search (rules, tests)
