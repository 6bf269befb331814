-- What owning a state tells: each of its lists has sixteen elements.
-- Assumes nothing.
use mathlib.Core.List.{List}
use mir.Val.{Val}
use denote.Laws.{Is}
use Rattle.plan.proofs.Laws.Owning.{plan_sized}
use Rattle.regulator.specs.State.{Shaped}
use Rattle.regulator.specs.declared.state.State.{State}
use Rattle.regulator.specs.contracts.state.State as owned

-- the facts of the fields, in their order: those from `claim` on, and those from `waiting` on
pub state_shaped : (s : State) (vs : List Val) → Is owned.the_row s vs → Shaped s
state_shaped s vs g =
    let from-claim = g.1.1.1.1.1.1.1.1.1 in
    let from-waiting = from-claim.1.1.1.1.1.1 in
    record {
      plan = plan_sized s.plan _ g.1.1.0;
      claim = from-claim.0.1.0.1;
      reserved = from-claim.1.0.1.0.1;
      reclaimed = from-claim.1.1.0.1.0.1;
      yielded = from-claim.1.1.1.0.1.0.1;
      writebacks = from-claim.1.1.1.1.0.1.0.1;
      waiting = plan_sized s.waiting.plan _ from-waiting.0.1.1.1.0;
      writebackclaim = from-waiting.1.0.1.0.1;
      tracked = from-waiting.1.1.0.1.0.1;
    }
