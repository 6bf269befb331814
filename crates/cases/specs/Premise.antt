-- The premise of the exact share can be met: in document 01's script on plan A domain 1 keeps asking in both completed periods; domain 3
-- does in a period of a plan that was handed in; domain 1 of plan D does with both claims; and domain 1 of plan E in a period at whose start it
-- yielded by forecast.
-- Assumes nothing.
use Rattle.std.specs.Prelude.{ℕ, ◌≡◌, List}
use Rattle.table.specs.Sums.{nth}
use Rattle.plan.specs.Reading.{read_plan}
use Rattle.plan.specs.declared.value.Plan.{Plan}
use Rattle.regulator.specs.Forecast.{no_estimates}
use Rattle.regulator.specs.Calls.{open_plan}
use Rattle.share.specs.Call.{Call}
use Rattle.share.specs.Ledger.{Period, blank, moments}
use Rattle.share.specs.Run.{run}
use Rattle.share.specs.Share.{Some, KeepsAsking, feeds}
use Rattle.cases.specs.Cases.{plan_a, plan_d, script, handing_in, asking_both}
use Rattle.cases.specs.Forecasts.{plan_e, forecasting}

-- A period that is completed, in which the domain at index j keeps asking: of its reservation it yields some and passes the rest on its
-- claim, and of its writeback reservation it passes all.
pub record Met (j reservation yielded passes writebackreservation : ℕ) (q : Period) : Type 0 where
  pub completed : q.page.decided ≡ q.plan.period
  pub asking : KeepsAsking j q.slots
  pub reserved : nth q.plan.reservation j ≡ reservation
  pub gives : nth q.page.yielded j ≡ yielded
  pub takes : nth q.page.passes j ≡ passes
  pub writes : nth q.plan.writebackreservation j ≡ writebackreservation
  pub written : nth q.page.claimedwritebacks j ≡ writebackreservation

-- the periods of calls on a plan, as the ledger has them
abbrev pub periods_of : Plan → List Call → List Period
periods_of p cs = moments (blank p no_estimates) (feeds (run (open_plan p).state cs))

-- in one period it yields nothing and passes 2, in the other it yields 1 and passes 1; document 02, Point 1: "the rule speaks of the plan
-- in force at a period's start", and plan A has no domain 3; Point 6: on plan D it passes 2 accesses and 1 writeback, while best effort and
-- domain 2 offer in every slot; Point 11: on plan E it yields 2 of its 4 by forecast, and passes 2
abbrev pub PremiseMet : Type 0
PremiseMet =
    Some (Met 0 2 0 2 0) (periods_of (read_plan plan_a).plan script)
    × Some (Met 0 2 1 1 0) (periods_of (read_plan plan_a).plan script)
    × Some (Met 2 1 0 1 0) (periods_of (read_plan plan_a).plan handing_in)
    × Some (Met 0 2 0 2 1) (periods_of (read_plan plan_d).plan asking_both)
    × Some (Met 0 4 2 2 0) (periods_of (read_plan plan_e).plan forecasting)
