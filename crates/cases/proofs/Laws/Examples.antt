-- The starred cases hold of the definitions, and the premise of the exact share is met, by computation.
-- Assumes nothing.
use mathlib.Core.Path.{◌≡◌, refl}
use mathlib.Core.Bool.{true}
use lib.Count.{count_trailing_zeros}
use lib.Ieee.{add, sub, mul, neg, sum as fsum, round, units, odd, size, span, climb, le, lt, eq, of_int, of_bits, of_fields}
use Rattle.table.specs.Sums.{sum, raised, lowered}
use Rattle.table.specs.Members.{has, each, last_of}
use Rattle.table.specs.Ranges.{values_below, every_below, some_below, lowest_from}
use Rattle.plan.specs.Value.{with_all, domains_to, outside, above, out_of_range, over_cap, reserved, plan_refusal}
use Rattle.plan.specs.Chain.{unlisted, link_of, fault_at, fault, goes_on, walk, chain_of, sums_from}
use Rattle.plan.specs.Reading.{no_length, leftover, read_plan, read_with_leftovers}
use Rattle.plan.specs.Sums.{sums_told}
use Rattle.plan.specs.Writing.{record_of, records_from, write_plan, written}
use Rattle.regulator.specs.Forecast.{need_of}
use Rattle.regulator.specs.State.{numbers_add_up, domain_adds_up, waiting_adds_up, estimate_adds_up, adds_up}
use Rattle.regulator.specs.Verdict.{at_cap, waits, waiting, loose, blocked, ruling, ruling_at, ruling_of}
use Rattle.regulator.specs.Turn.{after, ask, granted, passed_by, steps_of, verdicts}
use Rattle.regulator.specs.Grant.{domain_grant, grant}
use Rattle.regulator.specs.Close.{ended}
use Rattle.regulator.specs.Refusals.{offers_refusal, slot_refusal, no_domain, yield_refusal, hand_refusal}
use Rattle.regulator.specs.Calls.{open_plan, one_slot, slot_of, verdicts_in, yield_of, hand_of}
use Rattle.script.specs.Line.{is_digit, is_number, value_from, before, behind, is_slot, offers_of, slot_meaning, is_yield, yield_meaning, meaning_of, offers_in}
use Rattle.script.specs.Text.{digits_of, decimal, header, domain_text, domains_text, steps_text, period_text, open_text, refused_text}
use Rattle.script.specs.Replay.{split, carried_out, lines_text, replay_text}
use Rattle.share.specs.Ledger.{slot_entry, enter, moments}
use Rattle.share.specs.Run.{made, run, taken, fed}
use Rattle.cases.specs.Case.{outcome_of}
use Rattle.cases.specs.Cases.{plan_a, plan_d, script, handing_in, asking_both}
use Rattle.cases.specs.Forecasts.{plan_e, forecasting}
use Rattle.cases.specs.Starred.{Starred}
use Rattle.cases.specs.Premise.{PremiseMet}
use Rattle.cases.proofs.Laws.Meeting.{met_in, met_in_lem}

-- one line of names serves all
computed : Starred
    × (met_in 0 2 0 2 0 (read_plan plan_a).plan script ≡ true)
    × (met_in 0 2 1 1 0 (read_plan plan_a).plan script ≡ true)
    × (met_in 2 1 0 1 0 (read_plan plan_a).plan handing_in ≡ true)
    × (met_in 0 2 0 2 1 (read_plan plan_d).plan asking_both ≡ true)
    × (met_in 0 4 2 2 0 (read_plan plan_e).plan forecasting ≡ true)
unfolding sum raised lowered has last_of values_below every_below some_below lowest_from with_all domains_to outside above out_of_range over_cap reserved plan_refusal unlisted link_of fault_at fault goes_on walk chain_of sums_from no_length leftover read_plan read_with_leftovers sums_told record_of records_from write_plan written need_of numbers_add_up domain_adds_up waiting_adds_up estimate_adds_up adds_up at_cap waits waiting loose blocked ruling ruling_at ruling_of after ask granted passed_by steps_of verdicts domain_grant grant ended open_plan offers_refusal slot_refusal one_slot slot_of verdicts_in no_domain yield_refusal yield_of hand_refusal hand_of made run taken fed slot_entry enter moments outcome_of each is_digit is_number value_from before behind is_slot offers_of slot_meaning is_yield yield_meaning meaning_of offers_in digits_of decimal header domain_text domains_text steps_text period_text open_text refused_text split carried_out lines_text replay_text add sub mul neg fsum round units odd size span climb of_int of_bits of_fields count_trailing_zeros le lt eq
computed = (refl, refl, refl, refl, refl, refl)

pub starred : Starred
starred = computed.0

pub premise_met : PremiseMet
premise_met = (
  met_in_lem 0 2 0 2 0 (read_plan plan_a).plan script computed.1,
  met_in_lem 0 2 1 1 0 (read_plan plan_a).plan script computed.2,
  met_in_lem 2 1 0 1 0 (read_plan plan_a).plan handing_in computed.3,
  met_in_lem 0 2 0 2 1 (read_plan plan_d).plan asking_both computed.4,
  met_in_lem 0 4 2 2 0 (read_plan plan_e).plan forecasting computed.5,
)
