-- The answers to the questions, by computation.
-- Assumes nothing.
use mathlib.Core.Path.{refl}
use lib.Count.{count_trailing_zeros}
use lib.Ieee.{add, sub, mul, neg, sum as fsum, round, units, odd, size, span, climb, le, lt, eq, of_int, of_bits, of_fields}
use Rattle.table.specs.Sums.{sum, raised, lowered}
use Rattle.table.specs.Members.{has, each, last_of}
use Rattle.table.specs.Ranges.{values_below, every_below, some_below, lowest_from}
use Rattle.plan.specs.Value.{with_all, outside, above, out_of_range, over_cap, reserved, plan_refusal}
use Rattle.plan.specs.Chain.{unlisted, link_of, fault_at, fault, goes_on, walk, chain_of, sums_from}
use Rattle.plan.specs.Reading.{no_length, leftover, read_plan}
use Rattle.regulator.specs.Forecast.{need_of}
use Rattle.regulator.specs.State.{numbers_add_up, domain_adds_up, waiting_adds_up, estimate_adds_up, adds_up}
use Rattle.regulator.specs.Verdict.{at_cap, waits, waiting, loose, blocked, ruling, ruling_at, ruling_of}
use Rattle.regulator.specs.Turn.{after, ask, granted, passed_by, steps_of, verdicts}
use Rattle.regulator.specs.Grant.{domain_grant, grant}
use Rattle.regulator.specs.Close.{ended}
use Rattle.regulator.specs.Refusals.{offers_refusal, slot_refusal, no_domain, yield_refusal}
use Rattle.regulator.specs.Calls.{open_plan, one_slot, slot_of, yield_of}
use Rattle.script.specs.Line.{is_digit, is_number, value_from, before, behind, is_slot, offers_of, slot_meaning, is_yield, yield_meaning, meaning_of}
use Rattle.script.specs.Text.{digits_of, decimal, refused_text}
use Rattle.script.specs.Replay.{split, carried_out}
use Rattle.cause.specs.Cause.{word_for, cause_from, cause_at}
use Rattle.cause.specs.Explaining.{no_number}
use Rattle.question.specs.Ask.{is_ask, question_of}
use Rattle.question.specs.Slots.{decided_by, slot_at}
use Rattle.question.specs.Answer.{signed, cause_text, told_text, ask_refused_text, slot_text, asked_text, why_text}
use Rattle.answers.specs.Questions.{Answered}

pub answered : Answered
unfolding with_all sum raised lowered has each last_of values_below every_below some_below lowest_from outside above out_of_range over_cap reserved plan_refusal unlisted link_of fault_at fault goes_on walk chain_of sums_from no_length leftover read_plan need_of numbers_add_up domain_adds_up waiting_adds_up estimate_adds_up adds_up at_cap waits waiting loose blocked ruling ruling_at ruling_of after ask granted passed_by steps_of verdicts domain_grant grant ended offers_refusal slot_refusal no_domain yield_refusal open_plan one_slot slot_of yield_of is_digit is_number value_from before behind is_slot offers_of slot_meaning is_yield yield_meaning meaning_of digits_of decimal refused_text split carried_out word_for cause_from cause_at no_number is_ask question_of decided_by slot_at signed cause_text told_text ask_refused_text slot_text asked_text why_text add sub mul neg fsum round units odd size span climb of_int of_bits of_fields count_trailing_zeros le lt eq
answered = refl
