-- The runs that take as long as the bound allows, and those that it leaves out, by computation.
-- Assumes nothing.
use mathlib.Core.Path.{refl}
use mathlib.Core.Logic.{inl, inr}
use Rattle.table.specs.Sums.{sum, raised, lowered}
use Rattle.table.specs.Ranges.{values_below, every_below, some_below, lowest_from}
use Rattle.plan.specs.Value.{with_all, domains_to, outside, above, out_of_range, over_cap, reserved, plan_refusal}
use Rattle.regulator.specs.Forecast.{need_of}
use Rattle.regulator.specs.State.{numbers_add_up, domain_adds_up, waiting_adds_up, estimate_adds_up, adds_up}
use Rattle.regulator.specs.Verdict.{at_cap, waits, waiting, loose, blocked, ruling, ruling_at, ruling_of}
use Rattle.regulator.specs.Turn.{after, ask, granted, passed_by, steps_of, verdicts}
use Rattle.regulator.specs.Grant.{domain_grant, grant}
use Rattle.regulator.specs.Close.{ended}
use Rattle.regulator.specs.Refusals.{offers_refusal, slot_refusal, no_domain, yield_refusal, hand_refusal}
use Rattle.regulator.specs.Calls.{open_plan, one_slot, slot_of, verdicts_in, yield_of, hand_of}
use Rattle.share.specs.Run.{made, run, taken, fed}
use Rattle.wait.specs.Wait.{decision_in, decisions}
use Rattle.wait.specs.Longest.{LongestWaits, LeftOut}

-- one line of names serves both
computed : LongestWaits × LeftOut
unfolding sum raised lowered values_below every_below some_below lowest_from with_all domains_to outside above out_of_range over_cap reserved plan_refusal need_of numbers_add_up domain_adds_up waiting_adds_up estimate_adds_up adds_up at_cap waits waiting loose blocked ruling ruling_at ruling_of after ask granted passed_by steps_of verdicts domain_grant grant ended open_plan offers_refusal slot_refusal one_slot slot_of verdicts_in no_domain yield_refusal yield_of hand_refusal hand_of made run taken fed decision_in decisions
computed = (
  record {
    planned = refl;
    periods = record { long = refl; passes = (inr refl, (inr refl, (inl refl, tt))); under = (refl, (refl, (refl, tt))); verdicts = refl; last = refl };
    best = record { long = refl; passes = (inr refl, (inr refl, (inl refl, tt))); under = (refl, (refl, (refl, tt))); verdicts = refl; last = refl };
    waiting = record { long = refl; passes = (inr refl, (inr refl, (inl refl, tt))); under = (refl, (refl, (refl, tt))); verdicts = refl; last = refl };
    equal = record { long = refl; passes = (inr refl, (inr refl, (inl refl, tt))); under = (refl, (refl, (refl, tt))); verdicts = refl; last = refl };
  },
  record { planned = refl; plans = refl; renewed = refl; passed = refl; blocked = refl },
)

pub longest_waits : LongestWaits
longest_waits = computed.0

pub left_out : LeftOut
left_out = computed.1
