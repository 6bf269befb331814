-- The starred cases of document 01, 'Plan A and its neighbours', whole bullets; its misreadings, a few sentences more, and Points 1, 3,
-- 6 and 9 of document 02; and document 01's script on plan A: inputs and outcomes.
-- Assumes nothing.
use Rattle.std.specs.Prelude.{ℕ, ◌+◌, ◌*◌, List, [], ◌∷◌, ◌++◌, true, false, replicate, ℤ, pos, negsuc}
use Rattle.std.proofs.Math.Option.{Option, none, some}
use Rattle.table.specs.Ranges.{values_below}
use Rattle.plan.specs.Reading.{refused_reading, accepted_reading}
use Rattle.plan.specs.Writing.{records_from, refused_writing}
use Rattle.plan.specs.declared.value.Plan.{Plan}
use Rattle.regulator.specs.Forecast.{no_estimates}
use Rattle.regulator.specs.State.{none_waiting}
use Rattle.regulator.specs.declared.state.State.{State}
use Rattle.regulator.specs.declared.state.Waiting.{Waiting}
use Rattle.regulator.specs.declared.close.Counts.{Counts}
use Rattle.regulator.specs.Calls.{Handing}
use Rattle.script.specs.Line.{slot_line, yield_line, bad_line}
use Rattle.script.specs.Text.{bytes}
use Rattle.share.specs.Call.{Call, slot, yield, hand_in}
use Rattle.cases.specs.Case.{file, summed, value, calls, through, given, handed, line, replayed, Shown, Outcome, reading, sums, writing, answers, returns, hands, meaning, prints, Case}

-- the bytes of record 0 and of a domain record, "each record filled with zeros"; `byte3` is 0 in a good one, or 1 for a mark
abbrev pub head : ℕ → ℕ → List ℕ
head low high = low ∷ high ∷ 1 ∷ 0 ∷ replicate 12 0

abbrev pub domain : ℕ → ℕ → ℕ → ℕ → ℕ → ℕ → List ℕ
domain next number byte3 Q R W = next ∷ 0 ∷ number ∷ byte3 ∷ Q ∷ 0 ∷ R ∷ 0 ∷ W ∷ 0 ∷ replicate 6 0

-- Document 02, Point 6: a domain record with a writeback reservation; `byte12` is 0 in a good one
abbrev writer : (next number Q R W reservation byte12 : ℕ) → List ℕ
writer next number Q R W reservation byte12 = next ∷ 0 ∷ number ∷ 0 ∷ Q ∷ 0 ∷ R ∷ 0 ∷ W ∷ 0 ∷ reservation ∷ 0 ∷ byte12 ∷ replicate 3 0

-- plan A: P 4; domain 1 has Q 2, R 1, W 4; domain 2 has Q 1, R 0, W 0
abbrev pub plan_a : List ℕ
plan_a = head 4 0 ++ (domain 2 1 0 2 1 4 ++ domain 0 2 0 1 0 0)

-- plan A but for: the Q of domain 1; the next that record 2 names; the bytes of its period
abbrev reserving : ℕ → List ℕ
reserving Q = head 4 0 ++ (domain 2 1 0 Q 1 4 ++ domain 0 2 0 1 0 0)

abbrev naming : ℕ → List ℕ
naming next = head 4 0 ++ (domain 2 1 0 2 1 4 ++ domain next 2 0 1 0 0)

abbrev lasting : ℕ → ℕ → List ℕ
lasting low high = head low high ++ (domain 2 1 0 2 1 4 ++ domain 0 2 0 1 0 0)

-- plan A with two faults in record 1: domain 0, and byte 3 set (until Point 11, which makes 1 there a mark)
abbrev two_faults : List ℕ
two_faults = head 4 0 ++ (domain 2 0 1 2 1 4 ++ domain 0 2 0 1 0 0)

-- plan A but for the R of domain 2
abbrev reclaiming : List ℕ
reclaiming = head 4 0 ++ (domain 2 1 0 2 1 4 ++ domain 0 2 0 1 1 0)

-- a file whose sum is above P after two of its records, and whose third record names domain 0
abbrev over_then_six : List ℕ
over_then_six = head 4 0 ++ (domain 2 1 0 4 0 0 ++ (domain 3 2 0 1 0 0 ++ domain 0 0 0 1 0 0))

-- P 4,096, and all sixteen domains with a Q of 4,096 (bytes 0 and 16)
abbrev sixteen_whole : List ℕ
sixteen_whole = head 0 16 ++ (records_from (λ (k : ℕ). whole (k + 1) k) 1 15 ++ whole 0 16)
  where
    whole : ℕ → ℕ → List ℕ
    whole next number = next ∷ 0 ∷ number ∷ 0 ∷ 0 ∷ 16 ∷ replicate 10 0

-- plan D: P 6; domain 1 has Q 2, R 0, W 2 and a writeback reservation of 1; domain 2 has Q 2, R 0, W 1 and none. First with another Q
-- of domain 2, and of domain 1 another W, writeback reservation and byte 12.
abbrev file_d : (Q W reservation byte12 : ℕ) → List ℕ
file_d Q W reservation byte12 = head 6 0 ++ (writer 2 1 2 0 W reservation byte12 ++ writer 0 2 Q 0 1 0 0)

abbrev pub plan_d : List ℕ
plan_d = file_d 2 2 1 0

-- what plan A is read as, with another period or Q of domain 1
abbrev pub value_of : ℕ → ℕ → Plan
value_of P Q =
    record {
      period = P;
      planned = true ∷ true ∷ replicate 14 false;
      reservation = Q ∷ 1 ∷ replicate 14 0;
      reclaimcap = 1 ∷ replicate 15 0;
      writebackcap = 4 ∷ replicate 15 0;
      writebackreservation = replicate 16 0;
      marked = replicate 16 false;
    }

abbrev accepted : ℕ → ℕ → Outcome
accepted P Q = reading (accepted_reading (value_of P Q))

abbrev pub refused : ℕ → ℕ → Outcome
refused n place = reading (refused_reading n place)

-- the sums told: of how many records, and the sixteen places
abbrev pub tells : ℕ → List ℕ → Outcome
tells count places = sums (record { records = count; told = places })

-- seventeen numbers, of which those of 0, 1 and 2 are given
abbrev pub three : ℕ → ℕ → ℕ → List ℕ
three a b c = a ∷ b ∷ c ∷ replicate 14 0

-- a lent buffer of nines
abbrev pub nines : List ℕ
nines = replicate 17 9

-- a slot in which 0, 1 and 2 make these offers
abbrev pub offer : ℕ → ℕ → ℕ → Call
offer a b c = slot (three a b c) nines

-- a slot: the verdicts of 0, 1 and 2, then idle slots, loose and the steps
abbrev told : ℕ → ℕ → ℕ → ℕ → ℤ → ℕ → Shown
told a b c idle loose steps = record { refused = 0; verdicts = three a b c; idle = idle; loose = loose; counts = none; steps = steps }

-- a slot that completes a period of plan A: the verdicts, the counts and the steps; loose of the next period starts at 4 − 3, under
-- plan B at 3 − 2, under plan D at 6 − 5
abbrev completes : ℕ → ℕ → ℕ → Counts → ℕ → Shown
completes a b c counts steps = record { refused = 0; verdicts = three a b c; idle = 0; loose = pos 1; counts = some counts; steps = steps }

-- a call before any idle slot that decides none: 0 or a refusal, what the lent buffer holds, and loose
abbrev pub undecided : ℕ → List ℕ → ℤ → Shown
undecided n buffer loose = record { refused = n; verdicts = buffer; idle = 0; loose = loose; counts = none; steps = 0 }

-- a yield or a plan handed in
abbrev pub yields : ℕ → ℤ → Shown
yields n loose = undecided n [] loose

-- counts without idle slots and writebacks: best effort, then reserved, reclaimed and yielded of domain 1, and the sum of steps; domain 2
-- has `2:1+0-0w0`
abbrev counts_with : (best reserved reclaimed yielded steps : ℕ) → Counts
counts_with best reserved reclaimed yielded steps =
    record {
      idle = 0;
      best = best;
      reserved = reserved ∷ 1 ∷ replicate 14 0;
      reclaimed = reclaimed ∷ replicate 15 0;
      yielded = yielded ∷ replicate 15 0;
      writebacks = replicate 16 0;
      steps = steps;
    }

-- the counts of four idle slots, in a period in which domain 1 yielded 1
abbrev idle_counts : Counts
idle_counts =
    record {
      idle = 4;
      best = 0;
      reserved = replicate 16 0;
      reclaimed = replicate 16 0;
      yielded = 1 ∷ replicate 15 0;
      writebacks = replicate 16 0;
      steps = 68;
    }

-- plan A after two idle slots and one of domain 2, as in case i, but for its running sum of steps
abbrev summing : ℕ → State
summing steps =
    record {
      plan = value_of 4 2;
      decided = 3;
      closed = 0;
      idle = 2;
      best = 0;
      stock = 0;
      turn = 3;
      claim = 2 ∷ replicate 15 0;
      reserved = 0 ∷ 1 ∷ replicate 14 0;
      reclaimed = replicate 16 0;
      yielded = replicate 16 0;
      writebacks = replicate 16 0;
      steps = steps;
      waiting = none_waiting;
      writebackclaim = replicate 16 0;
      tracked = no_estimates;
    }

-- a yield of 1 by domain 1 there: 0, or 30 and nothing moves
abbrev yields_there : ℕ → ℤ → Outcome
yields_there n loose = answers 0 (record { refused = n; verdicts = []; idle = 2; loose = loose; counts = none; steps = 0 } ∷ [])

-- sixteen numbers, of which those of domains 1, 2 and 3 are given
abbrev pub domains : ℕ → ℕ → ℕ → List ℕ
domains a b c = a ∷ b ∷ c ∷ replicate 13 0

-- a plan of domains 1 and 3: P 3, the R of domain 3 is 1, all else but Q is 0; plan B has Q 1 and 1
abbrev second_pass : ℕ → ℕ → Plan
second_pass Q1 Q3 =
    record {
      period = 3;
      planned = true ∷ false ∷ true ∷ replicate 13 false;
      reservation = domains Q1 0 Q3;
      reclaimcap = domains 0 0 1;
      writebackcap = replicate 16 0;
      writebackreservation = replicate 16 0;
      marked = replicate 16 false;
    }

abbrev pub plan_b : Plan
plan_b = second_pass 1 1

abbrev pub awaiting : Plan → Waiting
awaiting p = record { given = true; plan = p }

-- a state without idle slots, yields and writebacks
abbrev state_of : Plan → (decided closed best turn : ℕ) → (claim reserved : List ℕ) → (steps : ℕ) → Waiting → State
state_of p decided closed best turn claim reserved steps waiting =
    record {
      plan = p;
      decided = decided;
      closed = closed;
      idle = 0;
      best = best;
      stock = 0;
      turn = turn;
      claim = claim;
      reserved = reserved;
      reclaimed = replicate 16 0;
      yielded = replicate 16 0;
      writebacks = replicate 16 0;
      steps = steps;
      waiting = waiting;
      writebackclaim = p.writebackreservation;
      tracked = no_estimates;
    }

-- plan A in its first period, after a slot or more, the first of them best effort's
abbrev in_a : (decided turn : ℕ) → (claim reserved : List ℕ) → Waiting → State
in_a decided turn claim reserved waiting = state_of (value_of 4 2) decided 0 1 turn claim reserved 0 waiting

-- plan A where a period begins
abbrev start_a : (closed : ℕ) → Waiting → State
start_a closed waiting = state_of (value_of 4 2) 0 closed 0 0 (domains 2 1 0) (domains 0 0 0) 0 waiting

-- what handing in a plan answers
abbrev answering : ℕ → ℕ → State → Handing
answering n place s = record { refused = n; place = place; state = s }

-- a slot in which 0, 1 and 3 make these offers
abbrev pub offer3 : ℕ → ℕ → ℕ → Call
offer3 a b d = slot (a ∷ b ∷ 0 ∷ d ∷ replicate 13 0) nines

-- such a slot under plan B: the verdicts of 0, 1 and 3, loose, the counts told and the steps
abbrev told3 : ℕ → ℕ → ℕ → ℤ → Option Counts → ℕ → Shown
told3 a b d loose counts steps =
    record { refused = 0; verdicts = a ∷ b ∷ 0 ∷ d ∷ replicate 13 0; idle = 0; loose = loose; counts = counts; steps = steps }

-- the counts of a period of plan B in which best effort, domain 1 and domain 3 pass once
abbrev counts_b : Counts
counts_b =
    record {
      idle = 0;
      best = 1;
      reserved = domains 1 0 1;
      reclaimed = replicate 16 0;
      yielded = replicate 16 0;
      writebacks = replicate 16 0;
      steps = 14;
    }

-- Point 1: after two slots of plan A plan B is handed in, and then one that is refused; two slots complete the period, three the next one,
-- and one more follows. On the way domain 3 tries a slot and a yield under plan A, and domain 2 under plan B.
abbrev pub handing_in : List Call
handing_in =
    offer 1 1 1
    ∷ offer 1 1 1
    ∷ hand_in plan_b
    ∷ offer3 0 0 1
    ∷ yield 3 1
    ∷ hand_in (second_pass 2 2)
    ∷ offer 1 1 1
    ∷ offer 1 1 1
    ∷ offer 0 0 1
    ∷ yield 2 1
    ∷ offer3 1 1 1
    ∷ offer3 1 1 1
    ∷ offer3 1 1 1
    ∷ offer3 1 1 1
    ∷ []

-- what plan D is read as, with another Q of domain 2, other writeback caps of domains 1 and 2, and other writeback reservations
abbrev value_d : (Q W1 W2 : ℕ) → (reservations : List ℕ) → Plan
value_d Q W1 W2 reservations =
    record {
      period = 6;
      planned = true ∷ true ∷ replicate 14 false;
      reservation = domains 2 Q 0;
      reclaimcap = replicate 16 0;
      writebackcap = domains W1 W2 0;
      writebackreservation = reservations;
      marked = replicate 16 false;
    }

abbrev read_d : Plan
read_d = value_d 2 2 1 (domains 1 0 0)

-- plan D in its first period, without idle slots and yields
abbrev in_d : (decided best turn : ℕ) → (claim reserved writebacks : List ℕ) → (steps : ℕ) → (writebackclaim : List ℕ) → State
in_d decided best turn claim reserved writebacks steps writebackclaim =
    record {
      plan = read_d;
      decided = decided;
      closed = 0;
      idle = 0;
      best = best;
      stock = 0;
      turn = turn;
      claim = claim;
      reserved = reserved;
      reclaimed = replicate 16 0;
      yielded = replicate 16 0;
      writebacks = writebacks;
      steps = steps;
      waiting = none_waiting;
      writebackclaim = writebackclaim;
      tracked = no_estimates;
    }

-- plan D with these writebacks and writeback claims, of which no access has passed; and a yield of 1 by domain 1 there
abbrev wrote : (decided : ℕ) → (writebacks writebackclaim : List ℕ) → State
wrote decided writebacks writebackclaim = in_d decided 0 3 (domains 2 2 0) (domains 0 0 0) writebacks 0 writebackclaim

abbrev pub yields_of : ℕ → ℤ → Outcome
yields_of n loose = answers 0 (yields n loose ∷ [])

-- Point 6: a period of plan D with writebacks on claim, on neither, blocked and at the cap
abbrev writing_back : List Call
writing_back = offer 0 0 2 ∷ offer 1 2 0 ∷ offer 1 2 1 ∷ offer 1 2 0 ∷ offer 0 2 2 ∷ offer 1 1 1 ∷ []

-- its counts: best effort 1, no pass and two writebacks of domain 1, two passes and a writeback of domain 2
abbrev counts_d : Counts
counts_d =
    record {
      idle = 0;
      best = 1;
      reserved = domains 0 2 0;
      reclaimed = replicate 16 0;
      yielded = replicate 16 0;
      writebacks = domains 2 1 0;
      steps = 31;
    }

-- a period of plan D in which domain 1 asks for a kind of which it has claim left, as long as it has either
abbrev pub asking_both : List Call
asking_both = replicate 2 (offer 1 2 1) ++ replicate 4 (offer 1 1 1)

-- "four times `s 11100000000000000`, then `y 1 1`, three times the same slot line, then `s 01000000000000000`"
abbrev pub script : List Call
script = replicate 4 (offer 1 1 1) ++ (yield 1 1 ∷ (replicate 3 (offer 1 1 1) ++ (offer 0 1 0 ∷ [])))

-- the same as the replay's script, and all of its output
abbrev script_text : List ℕ
script_text =
    bytes
    "s 11100000000000000\ns 11100000000000000\ns 11100000000000000\ns 11100000000000000\ny 1 1\ns 11100000000000000\ns 11100000000000000\ns 11100000000000000\ns 01000000000000000\n"

abbrev output_text : List ℕ
output_text = bytes "period idle best domains\n1 0 1 1:2+0-0w0 2:1+0-0w0 s15\n2 0 1 1:1+1-1w0 2:1+0-0w0 s30\nopen 0\n"

abbrev pub cases : List Case
cases =
    -- a: "empty file: 1"
    record { input = file []; outcome = refused 1 0 }
    -- b: "plan A is accepted. P 4,096 passes, 4,097 is 2."
    ∷ record { input = file plan_a; outcome = accepted 4 2 }
    ∷ record { input = file (lasting 0 16); outcome = accepted 4096 2 }
    ∷ record { input = file (lasting 1 16); outcome = refused 2 0 }
    -- c: "record 2 names 1 as next: 5 at 1"
    ∷ record { input = file (naming 1); outcome = refused 5 1 }
    -- d: "it names 3: 4 at 3. Two faults, domain 0 and byte 3 set: 6."
    ∷ record { input = file (naming 3); outcome = refused 4 3 }
    ∷ record { input = file two_faults; outcome = refused 6 1 }
    -- e: "Q of domain 1 = 3 is accepted (3 + 1 = 4)"
    ∷ record { input = file (reserving 3); outcome = accepted 4 3 }
    -- f: "4 is 10 at 0; 5 is 9 at 1"
    ∷ record { input = file (reserving 4); outcome = refused 10 0 }
    ∷ record { input = file (reserving 5); outcome = refused 9 1 }
    -- g: "fresh, numbers 0, 1, 2 offer accesses in four slots: verdicts of 0, 1, 2 are 1 2 2; 6 1 2; 6 2 1; 6 1 4"
    ∷ record {
      input = calls plan_a (replicate 4 (offer 1 1 1));
      outcome =
          answers 0
          (told 1 2 2 0 (pos 0) 0 ∷ told 6 1 2 0 (pos 0) 0 ∷ told 6 2 1 0 (pos 0) 0 ∷ completes 6 1 4 (counts_with 1 2 0 0 15) 15 ∷ []);
    }
    -- h: "fresh, only domain 1 offers accesses in three slots: 1, 1, then 5 and an idle slot"
    ∷ record {
      input = calls plan_a (replicate 3 (offer 0 1 0));
      outcome = answers 0 (told 0 1 0 0 (pos 1) 1 ∷ told 0 1 0 0 (pos 1) 16 ∷ told 0 5 0 1 (pos 0) 17 ∷ []);
    }
    -- i: "fresh, two idle slots, then 0 and 2 offer accesses: loose is −1, verdicts 6 and 1" (−1 is `negsuc 0`)
    ∷ record {
      input = calls plan_a (offer 0 0 0 ∷ offer 0 0 0 ∷ offer 1 0 1 ∷ []);
      outcome = answers 0 (told 0 0 0 1 (pos 0) 17 ∷ told 0 0 0 2 (negsuc 0) 17 ∷ told 6 0 1 2 (negsuc 0) 2 ∷ []);
    }
    -- j: "0 alone there: 1"
    ∷ record {
      input = calls plan_a (offer 0 0 0 ∷ offer 0 0 0 ∷ offer 1 0 0 ∷ []);
      outcome = answers 0 (told 0 0 0 1 (pos 0) 17 ∷ told 0 0 0 2 (negsuc 0) 17 ∷ told 1 0 0 2 (negsuc 1) 0 ∷ []);
    }
    -- k: "fresh, domain 2 offers a writeback: 3"
    ∷ record { input = calls plan_a (offer 0 0 2 ∷ []); outcome = answers 0 (told 0 0 3 1 (pos 0) 17 ∷ []) }
    -- l: "fresh, domain 1 yields 3: 23; 2 is taken"
    ∷ record { input = calls plan_a (yield 1 3 ∷ yield 1 2 ∷ []); outcome = answers 0 (yields 23 (pos 1) ∷ yields 0 (pos 3) ∷ []) }
    -- document 02, Point 3: "After each record taken the walk also tells the sum over the domains met so far"
    ∷ record { input = summed plan_a; outcome = tells 2 (2 ∷ 3 ∷ replicate 14 0) }
    -- 10 is "still told only at the chain's end": behind a 6, whose record adds nothing
    ∷ record { input = file over_then_six; outcome = refused 6 3 }
    ∷ record { input = summed over_then_six; outcome = tells 2 (4 ∷ 5 ∷ replicate 14 0) }
    -- "plain addition": 65,536 is not 0
    ∷ record { input = file sixteen_whole; outcome = refused 10 0 }
    ∷ record { input = summed sixteen_whole; outcome = tells 16 (values_below (λ (k : ℕ). 4096 * (k + 1)) 16) }
    -- none where 1 to 3 refuse the file
    ∷ record { input = summed (lasting 1 16); outcome = tells 0 (replicate 16 0) }
    -- "A reclaimed pass that also lowers the yielder's claim": domain 1 keeps its claim of 1, so loose is 2 − 1 in the end
    ∷ record {
      input = calls reclaiming (yield 1 1 ∷ offer 0 0 1 ∷ offer 0 0 1 ∷ []);
      outcome = answers 0 (yields 0 (pos 2) ∷ told 0 0 1 0 (pos 2) 2 ∷ told 0 0 1 0 (pos 1) 16 ∷ []);
    }
    -- "Stock carried into the next period": what domain 1 yields in one period is not there in the next
    ∷ record {
      input = calls plan_a (yield 1 1 ∷ (replicate 4 (offer 0 0 0) ++ replicate 3 (offer 0 1 0)));
      outcome =
          answers 0
          (yields 0 (pos 2)
          ∷ told 0 0 0 1 (pos 1) 17
          ∷ told 0 0 0 2 (pos 0) 17
          ∷ told 0 0 0 3 (negsuc 0) 17
          ∷ completes 0 0 0 idle_counts 17
          ∷ told 0 1 0 0 (pos 1) 1
          ∷ told 0 1 0 0 (pos 1) 16
          ∷ told 0 5 0 1 (pos 0) 17
          ∷ []);
    }
    -- "With none, the slot is idle .. and the turn remains": it is at 2 before the idle slot and after it
    ∷ record {
      input = calls plan_a (offer 0 1 1 ∷ offer 0 0 0 ∷ offer 0 1 1 ∷ []);
      outcome = answers 0 (told 0 1 2 0 (pos 1) 1 ∷ told 0 0 0 1 (pos 0) 17 ∷ told 0 2 1 1 (pos 0) 0 ∷ []);
    }
    -- 32 "an offer byte above 2"; 22 "k is 0"; "Nothing lent changes"
    ∷ record { input = calls plan_a (offer 3 0 0 ∷ yield 1 0 ∷ []); outcome = answers 0 (undecided 32 nines (pos 1) ∷ yields 22 (pos 1) ∷ []) }
    -- "Writing .. touches nothing behind the last record, and answers the bytes written"; of a refusal "Nothing lent changes"
    ∷ record {
      input = value (value_of 4 2) (replicate 50 9);
      outcome = writing (record { refused = 0; place = 0; bytes = 48 }) (plan_a ++ replicate 2 9);
    }
    ∷ record { input = value (value_of 4 5) (replicate 50 9); outcome = writing (refused_writing 9 1) (replicate 50 9) }
    -- "Slot: `s `, then 17 decimal digits"; "one to four decimal digits (k). Leading zeros are allowed."
    ∷ record { input = line (bytes "s 31100000000000000") nines; outcome = meaning (slot_line (three 3 1 1)) (three 3 1 1) }
    ∷ record { input = line (bytes "y 01 0001") nines; outcome = meaning (yield_line 1 1) nines }
    ∷ record { input = line (bytes "y 1 00001") nines; outcome = meaning (bad_line 41) nines }
    -- document 02, Point 9: a state adds up only if its running sum is "from 17 × idle to 17 × idle + 16 × (T − idle)", 34 to 50 here
    ∷ record { input = given (summing 33) (yield 1 1); outcome = yields_there 30 (negsuc 0) }
    ∷ record { input = given (summing 34) (yield 1 1); outcome = yields_there 0 (pos 0) }
    ∷ record { input = given (summing 50) (yield 1 1); outcome = yields_there 0 (pos 0) }
    ∷ record { input = given (summing 51) (yield 1 1); outcome = yields_there 30 (negsuc 0) }
    -- Point 1: plan B "waits and takes force after the last slot of the open period. .. The turn is kept." 33 and 21 go by the plan in force.
    ∷ record {
      input = through plan_a handing_in;
      outcome =
          returns 0
          ((0, in_a 1 1 (domains 2 1 0) (domains 0 0 0) none_waiting)
          ∷ (0, in_a 2 2 (domains 1 1 0) (domains 1 0 0) none_waiting)
          ∷ (0, in_a 2 2 (domains 1 1 0) (domains 1 0 0) (awaiting plan_b))
          ∷ (33, in_a 2 2 (domains 1 1 0) (domains 1 0 0) (awaiting plan_b))
          ∷ (21, in_a 2 2 (domains 1 1 0) (domains 1 0 0) (awaiting plan_b))
          ∷ (10, in_a 2 2 (domains 1 1 0) (domains 1 0 0) (awaiting plan_b))
          ∷ (0, in_a 3 3 (domains 1 0 0) (domains 1 1 0) (awaiting plan_b))
          ∷ (0, state_of plan_b 0 1 0 2 (domains 1 0 1) (domains 0 0 0) 0 none_waiting)
          ∷ (33, state_of plan_b 0 1 0 2 (domains 1 0 1) (domains 0 0 0) 0 none_waiting)
          ∷ (21, state_of plan_b 0 1 0 2 (domains 1 0 1) (domains 0 0 0) 0 none_waiting)
          ∷ (0, state_of plan_b 1 1 0 4 (domains 1 0 0) (domains 0 0 1) 1 none_waiting)
          ∷ (0, state_of plan_b 2 1 1 1 (domains 1 0 0) (domains 0 0 1) 14 none_waiting)
          ∷ (0, state_of plan_b 0 2 0 2 (domains 1 0 1) (domains 0 0 0) 0 none_waiting)
          ∷ (0, state_of plan_b 1 2 0 4 (domains 1 0 0) (domains 0 0 1) 1 none_waiting)
          ∷ []);
    }
    -- its verdicts and counts: those of the old plan are told by the slot that completes the period
    ∷ record {
      input = calls plan_a handing_in;
      outcome =
          answers 0
          (told 1 2 2 0 (pos 0) 0
          ∷ told 6 1 2 0 (pos 0) 0
          ∷ yields 0 (pos 0)
          ∷ undecided 33 nines (pos 0)
          ∷ yields 21 (pos 0)
          ∷ yields 10 (pos 0)
          ∷ told 6 2 1 0 (pos 0) 0
          ∷ completes 6 1 4 (counts_with 1 2 0 0 15) 15
          ∷ undecided 33 nines (pos 1)
          ∷ yields 21 (pos 1)
          ∷ told3 2 2 1 (pos 1) none 1
          ∷ told3 1 2 5 (pos 0) none 13
          ∷ told3 6 1 5 (pos 1) (some counts_b) 0
          ∷ told3 2 2 1 (pos 1) none 1
          ∷ []);
    }
    -- "A later one replaces the waiting one"; a plan handed in before the first slot of a period waits for that period's end too
    ∷ record {
      input = through plan_a (hand_in plan_b ∷ hand_in (value_of 4 3) ∷ replicate 4 (offer 1 1 1));
      outcome =
          returns 0
          ((0, start_a 0 (awaiting plan_b))
          ∷ (0, start_a 0 (awaiting (value_of 4 3)))
          ∷ (0, in_a 1 1 (domains 2 1 0) (domains 0 0 0) (awaiting (value_of 4 3)))
          ∷ (0, in_a 2 2 (domains 1 1 0) (domains 1 0 0) (awaiting (value_of 4 3)))
          ∷ (0, in_a 3 3 (domains 1 0 0) (domains 1 1 0) (awaiting (value_of 4 3)))
          ∷ (0, state_of (value_of 4 3) 0 1 0 2 (domains 3 1 0) (domains 0 0 0) 0 none_waiting)
          ∷ []);
    }
    -- "Handing in is checked for 30, 34, then as a plan value": the first that applies is told, and the state given comes back
    ∷ record { input = handed (start_a 0 (awaiting plan_b)) (value_of 4 5); outcome = hands (answering 9 1 (start_a 0 (awaiting plan_b))) }
    ∷ record { input = handed (start_a 0 none_waiting) (value_of 0 2); outcome = hands (answering 2 0 (start_a 0 none_waiting)) }
    ∷ record { input = handed (start_a 4294967295 none_waiting) (value_of 0 2); outcome = hands (answering 34 0 (start_a 4294967295 none_waiting)) }
    -- a state "adds up only if that plan would be accepted": here one waits that would be refused with 10
    ∷ record {
      input = handed (start_a 4294967295 (awaiting (value_of 4 4))) plan_b;
      outcome = hands (answering 30 0 (start_a 4294967295 (awaiting (value_of 4 4))));
    }
    ∷ record { input = given (start_a 0 (awaiting (value_of 4 4))) (yield 1 1); outcome = answers 0 (yields 30 (pos 1) ∷ []) }
    -- "or none": what stands beside it then is not looked at
    ∷ record {
      input = handed (start_a 0 (record { given = false; plan = value_of 4 4 })) plan_b;
      outcome = hands (answering 0 0 (start_a 0 (awaiting plan_b)));
    }
    -- Point 6: "Bytes 10-11 of a domain record hold a writeback reservation, 0 in older plans, and leave check 8"
    ∷ record { input = file plan_d; outcome = reading (accepted_reading read_d) }
    ∷ record { input = file (file_d 2 2 3 1); outcome = refused 8 1 }
    -- "11 the writeback reservation is above W, place as for 9, checked right after it": 3 is below P; 8 and W 7 are not
    ∷ record { input = file (file_d 2 2 3 0); outcome = refused 11 1 }
    ∷ record { input = file (file_d 2 7 8 0); outcome = refused 9 1 }
    -- "Number 10 now sums both reservations": 2 + 2 + 2 is P, and 7 is above it; so do the sums told
    ∷ record { input = file (file_d 2 2 2 0); outcome = reading (accepted_reading (value_d 2 2 1 (domains 2 0 0))) }
    ∷ record { input = file (file_d 3 2 2 0); outcome = refused 10 0 }
    ∷ record { input = summed plan_d; outcome = tells 2 (3 ∷ 5 ∷ replicate 14 0) }
    -- of a value: written to bytes 10-11; 9 over all domains before 11, of two the lower; 11 before 10; an absent domain's counts as 9
    ∷ record {
      input = value read_d (replicate 50 9);
      outcome = writing (record { refused = 0; place = 0; bytes = 48 }) (plan_d ++ replicate 2 9);
    }
    ∷ record { input = value (value_d 2 2 7 (domains 3 0 0)) (replicate 50 9); outcome = writing (refused_writing 9 2) (replicate 50 9) }
    ∷ record { input = value (value_d 2 2 1 (domains 3 2 0)) (replicate 50 9); outcome = writing (refused_writing 11 1) (replicate 50 9) }
    ∷ record { input = value (value_d 2 2 1 (domains 1 0 1)) (replicate 50 9); outcome = writing (refused_writing 9 3) (replicate 50 9) }
    -- "A writeback passes on writeback claim if there is any, otherwise only when not blocked, and never above W"; "Loose takes off both
    -- claims, and a domain waits on claim if it offers a kind of which it has claim left"
    ∷ record {
      input = calls plan_d writing_back;
      outcome =
          answers 0
          (told 0 0 1 0 (pos 0) 2
          ∷ told 6 1 0 0 (pos 0) 15
          ∷ told 6 6 1 0 (pos 0) 0
          ∷ told 1 2 0 0 (negsuc 0) 14
          ∷ told 0 1 3 0 (negsuc 1) 0
          ∷ completes 6 2 1 counts_d 0
          ∷ []);
    }
    -- "It uses no access claim, stock or reclaim cap"; the next period begins with both claims
    ∷ record {
      input = through plan_d writing_back;
      outcome =
          returns 0
          ((0, in_d 1 0 3 (domains 2 2 0) (domains 0 0 0) (domains 0 1 0) 2 (domains 1 0 0))
          ∷ (0, in_d 2 0 2 (domains 2 2 0) (domains 0 0 0) (domains 1 1 0) 17 (domains 0 0 0))
          ∷ (0, in_d 3 0 3 (domains 2 1 0) (domains 0 1 0) (domains 1 1 0) 17 (domains 0 0 0))
          ∷ (0, in_d 4 1 1 (domains 2 1 0) (domains 0 1 0) (domains 1 1 0) 31 (domains 0 0 0))
          ∷ (0, in_d 5 1 2 (domains 2 1 0) (domains 0 1 0) (domains 2 1 0) 31 (domains 0 0 0))
          ∷ (0, state_of read_d 0 1 0 3 (domains 2 2 0) (domains 0 0 0) 0 none_waiting)
          ∷ []);
    }
    -- "In a state that adds up, the sum to T adds the writebacks, they are bounded by W alone"
    ∷ record { input = given (wrote 2 (domains 1 1 0) (domains 0 0 0)) (yield 1 1); outcome = yields_of 0 (pos 1) }
    ∷ record { input = given (wrote 0 (domains 1 1 0) (domains 0 0 0)) (yield 1 1); outcome = yields_of 30 (pos 2) }
    ∷ record { input = given (wrote 3 (domains 1 2 0) (domains 0 0 0)) (yield 1 1); outcome = yields_of 30 (negsuc 0) }
    -- ", and writeback claim is its reservation less the writebacks, or 0 if they exceed it"
    ∷ record { input = given (wrote 0 (domains 0 0 0) (domains 0 0 0)) (yield 1 1); outcome = yields_of 30 (pos 2) }
    ∷ record { input = given (wrote 2 (domains 1 1 0) (domains 1 0 0)) (yield 1 1); outcome = yields_of 30 (negsuc 0) }
    ∷ record { input = given (wrote 2 (domains 1 1 0) (domains 0 1 0)) (yield 1 1); outcome = yields_of 30 (negsuc 0) }
    -- "Yields are of access claim only": domain 1 has 2 of it, and 1 of the other
    ∷ record { input = calls plan_d (yield 1 3 ∷ yield 1 2 ∷ []); outcome = answers 0 (yields 23 (pos 1) ∷ yields 0 (pos 3) ∷ []) }
    -- a new plan's writeback claims start from its own reservations
    ∷ record {
      input = through plan_a (hand_in read_d ∷ replicate 4 (offer 1 1 1));
      outcome =
          returns 0
          ((0, start_a 0 (awaiting read_d))
          ∷ (0, in_a 1 1 (domains 2 1 0) (domains 0 0 0) (awaiting read_d))
          ∷ (0, in_a 2 2 (domains 1 1 0) (domains 1 0 0) (awaiting read_d))
          ∷ (0, in_a 3 3 (domains 1 0 0) (domains 1 1 0) (awaiting read_d))
          ∷ (0, state_of read_d 0 1 0 2 (domains 2 2 0) (domains 0 0 0) 0 none_waiting)
          ∷ []);
    }
    -- the script, whose fifth slot shows "The turn put back to 0 at each period": `1 0 1 1:2+0-0w0 2:1+0-0w0`, `2 0 1 1:1+1-1w0 2:1+0-0w0`;
    -- and Point 9, "document 01's run: 15, then 30"
    ∷ record {
      input = calls plan_a script;
      outcome =
          answers 0
          (told 1 2 2 0 (pos 0) 0
          ∷ told 6 1 2 0 (pos 0) 0
          ∷ told 6 2 1 0 (pos 0) 0
          ∷ completes 6 1 4 (counts_with 1 2 0 0 15) 15
          ∷ yields 0 (pos 2)
          ∷ told 2 2 1 0 (pos 2) 0
          ∷ told 1 2 4 0 (pos 1) 14
          ∷ told 2 1 4 0 (pos 1) 0
          ∷ completes 0 1 0 (counts_with 1 1 1 1 30) 16
          ∷ []);
    }
    -- "All of the output"
    ∷ record { input = replayed plan_a script_text; outcome = prints output_text }
    -- "`number:reserved+reclaimed-yieldedwwritebacks`", of a domain that yields 2 and takes 1 back
    ∷ record {
      input =
          replayed plan_a
          (bytes "y 1 2\ns 01100000000000000\ns 01100000000000000\ns 01100000000000000\ns 01100000000000000\n");
      outcome = prints (bytes "period idle best domains\n1 2 0 1:0+1-2w0 2:1+0-0w0 s35\nopen 0\n");
    }
    -- "A refused line prints `line L refused N` (L from 1) after what stands printed and ends the run without `open`"
    ∷ record {
      input = replayed plan_a (bytes "s 31100000000000000\ns 11100000000000000\n");
      outcome = prints (bytes "period idle best domains\nline 1 refused 32\n");
    }
    ∷ []
