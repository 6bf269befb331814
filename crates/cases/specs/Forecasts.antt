-- Cases of document 02, Point 11: marks in files and values, a run of plan E over three periods, states with estimates of all kinds,
-- estimates in bits, and needs.
-- Assumes nothing.
use Rattle.std.specs.Prelude.{ℕ, List, [], ◌∷◌, ◌++◌, Bool, true, false, replicate, ℤ, pos, negsuc}
use Rattle.std.proofs.Math.Option.{Option, none, some}
use Rattle.std.specs.Float.{nan, binary64}
use Rattle.std.specs.Float.Ieee.{of_bits}
use Rattle.plan.specs.Reading.{accepted_reading}
use Rattle.plan.specs.Writing.{refused_writing}
use Rattle.plan.specs.declared.value.Plan.{Plan}
use Rattle.regulator.specs.Forecast.{unknown}
use Rattle.regulator.specs.State.{none_waiting}
use Rattle.regulator.specs.declared.forecast.Estimate.{Estimate}
use Rattle.regulator.specs.declared.forecast.Estimate.TheVariants.{Unknown, Known}
use Rattle.regulator.specs.declared.state.State.{State}
use Rattle.regulator.specs.declared.state.Waiting.{Waiting}
use Rattle.regulator.specs.declared.close.Counts.{Counts}
use Rattle.script.specs.Text.{bytes}
use Rattle.share.specs.Call.{Call, yield, hand_in}
use Rattle.cases.specs.Case.{file, value, calls, through, given, replayed, stepped, closing, needing, Shown, reading, writing, answers, returns, prints, estimate, need, Case}
use Rattle.cases.specs.Cases.{head, domain, refused, three, offer, yields, domains, awaiting, yields_of}

-- plan E: P 5; domain 1 has Q 4, R 1, W 1 and a mark; domain 2 has Q 1, R 1, W 0 and none. First with other numbers and bytes 3 of
-- both, and another Q of domain 1.
abbrev file_e : (first byte3 Q second other_byte3 : ℕ) → List ℕ
file_e first byte3 Q second other_byte3 = head 5 0 ++ (domain 2 first byte3 Q 1 1 ++ domain 0 second other_byte3 1 1 0)

abbrev pub plan_e : List ℕ
plan_e = file_e 1 1 4 2 0

-- what it is read as, with other marks
abbrev value_e : (marked : List Bool) → Plan
value_e marked =
    record {
      period = 5;
      planned = true ∷ true ∷ replicate 14 false;
      reservation = domains 4 1 0;
      reclaimcap = domains 1 1 0;
      writebackcap = domains 1 0 0;
      writebackreservation = replicate 16 0;
      marked = marked;
    }

abbrev read_e : Plan
read_e = value_e (true ∷ replicate 15 false)

-- an estimate, by the bits of its float
abbrev known : (bits : ℕ) → Estimate
known bits = Known (of_bits binary64 bits)

-- a state of such a plan, with the estimates of domains 1, 2 and 3, and without yields and writebacks of domain 2
abbrev with_e : Plan → (decided closed idle best stock turn : ℕ) → (claim reserved reclaimed : List ℕ) → (yielded writebacks steps : ℕ) → Waiting → (e1 e2 e3 : Estimate) → State
with_e p decided closed idle best stock turn claim reserved reclaimed yielded writebacks steps waiting e1 e2 e3 =
    record {
      plan = p;
      decided = decided;
      closed = closed;
      idle = idle;
      best = best;
      stock = stock;
      turn = turn;
      claim = claim;
      reserved = reserved;
      reclaimed = reclaimed;
      yielded = domains yielded 0 0;
      writebacks = domains writebacks 0 0;
      steps = steps;
      waiting = waiting;
      writebackclaim = replicate 16 0;
      tracked = record { estimate = e1 } ∷ record { estimate = e2 } ∷ record { estimate = e3 } ∷ replicate 13 unknown;
    }

-- a state of plan E, of which only domain 1 may have an estimate
abbrev in_e : (decided closed idle best stock turn : ℕ) → (claim reserved reclaimed : List ℕ) → (yielded writebacks steps : ℕ) → Waiting → Estimate → State
in_e decided closed idle best stock turn claim reserved reclaimed yielded writebacks steps waiting e =
    with_e read_e decided closed idle best stock turn claim reserved reclaimed yielded writebacks steps waiting e Unknown Unknown

-- plan E opened, with estimates and a claim of domain 1 of which the rest is yielded
abbrev open_e : Plan → (claim yielded : ℕ) → (e1 e2 e3 : Estimate) → State
open_e p claim yielded e1 e2 e3 = with_e p 0 0 0 0 yielded 0 (domains claim 1 0) (domains 0 0 0) (domains 0 0 0) yielded 0 0 none_waiting e1 e2 e3

-- the last slot of a period: domain 1 passed 3 and domain 2 passed 1, of plan E or one with other marks; then the period after
abbrev last_e : Plan → Estimate → State
last_e p e = with_e p 4 7 0 0 0 3 (domains 1 0 0) (domains 3 1 0) (domains 0 0 0) 0 0 40 none_waiting e Unknown Unknown

abbrev after_e : Plan → (claim yielded : ℕ) → Estimate → List (ℕ × State)
after_e p claim yielded e =
    (0, with_e p 0 8 0 0 yielded 1 (domains claim 1 0) (domains 0 0 0) (domains 0 0 0) yielded 0 0 none_waiting e Unknown Unknown) ∷ []

-- a slot: the verdicts of 0, 1 and 2, then idle slots, loose, the counts told and the steps
abbrev shows : ℕ → ℕ → ℕ → ℕ → ℤ → Option Counts → ℕ → Shown
shows a b c idle loose counts steps = record { refused = 0; verdicts = three a b c; idle = idle; loose = loose; counts = counts; steps = steps }

-- counts without yields and writebacks of domain 2
abbrev counts_e : (idle best : ℕ) → (reserved reclaimed : List ℕ) → (yielded writebacks steps : ℕ) → Counts
counts_e idle best reserved reclaimed yielded writebacks steps =
    record {
      idle = idle;
      best = best;
      reserved = reserved;
      reclaimed = reclaimed;
      yielded = domains yielded 0 0;
      writebacks = domains writebacks 0 0;
      steps = steps;
    }

-- three periods of plan E; in the third it is handed in once more
abbrev pub forecasting : List Call
forecasting =
    offer 1 1 1
    ∷ offer 1 1 1
    ∷ offer 0 2 0
    ∷ offer 0 1 0
    ∷ offer 1 0 0
    ∷ offer 1 1 1
    ∷ offer 1 1 1
    ∷ offer 0 1 1
    ∷ offer 1 1 1
    ∷ offer 0 1 1
    ∷ hand_in read_e
    ∷ offer 1 1 1
    ∷ offer 1 0 1
    ∷ offer 0 1 1
    ∷ offer 0 0 1
    ∷ offer 0 0 1
    ∷ []

-- its slots as the replay's script
abbrev forecast_text : List ℕ
forecast_text =
    bytes
    "s 11100000000000000\ns 11100000000000000\ns 02000000000000000\ns 01000000000000000\ns 10000000000000000\ns 11100000000000000\ns 11100000000000000\ns 01100000000000000\ns 11100000000000000\ns 01100000000000000\ns 11100000000000000\ns 10100000000000000\ns 01100000000000000\ns 00100000000000000\ns 00100000000000000\n"

abbrev pub forecasts : List Case
forecasts =
    -- "A domain may be marked with 1 in byte 3 of its record, and larger values are still refused with 8": after 6 and 7, before 9
    record { input = file plan_e; outcome = reading (accepted_reading read_e) }
    ∷ record { input = file (file_e 1 0 4 2 1); outcome = reading (accepted_reading (value_e (false ∷ true ∷ replicate 14 false))) }
    ∷ record { input = file (file_e 1 2 6 2 0); outcome = refused 8 1 }
    ∷ record { input = file (file_e 1 1 6 2 0); outcome = refused 9 1 }
    ∷ record { input = file (file_e 0 2 4 2 0); outcome = refused 6 1 }
    ∷ record { input = file (file_e 1 1 4 1 2); outcome = refused 7 2 }
    -- of a value: written to byte 3; "an absent domain's mark counts as 9", of two the lower
    ∷ record {
      input = value read_e (replicate 50 9);
      outcome = writing (record { refused = 0; place = 0; bytes = 48 }) (plan_e ++ replicate 2 9);
    }
    ∷ record { input = value (value_e (true ∷ false ∷ true ∷ true ∷ replicate 12 false)) (replicate 50 9); outcome = writing (refused_writing 9 3) (replicate 50 9) }
    -- "It has no estimate until its first period closes; then the estimate is its access passes"; "At each period's start such a domain
    -- yields Q less its need"; "yielded and stock start with them"; "A new plan starts without estimates", an equal one too
    ∷ record {
      input = through plan_e forecasting;
      outcome =
          returns 0
          ((0, in_e 1 0 0 0 0 2 (domains 3 1 0) (domains 1 0 0) (domains 0 0 0) 0 0 1 none_waiting Unknown)
          ∷ (0, in_e 2 0 0 0 0 3 (domains 3 0 0) (domains 1 1 0) (domains 0 0 0) 0 0 1 none_waiting Unknown)
          ∷ (0, in_e 3 0 0 0 0 2 (domains 3 0 0) (domains 1 1 0) (domains 0 0 0) 0 1 16 none_waiting Unknown)
          ∷ (0, in_e 4 0 0 0 0 2 (domains 2 0 0) (domains 2 1 0) (domains 0 0 0) 0 1 32 none_waiting Unknown)
          ∷ (0, in_e 0 1 0 0 2 1 (domains 2 1 0) (domains 0 0 0) (domains 0 0 0) 2 0 0 none_waiting (known 0x4000_0000_0000_0000))
          ∷ (0, in_e 1 1 0 0 2 2 (domains 1 1 0) (domains 1 0 0) (domains 0 0 0) 2 0 0 none_waiting (known 0x4000_0000_0000_0000))
          ∷ (0, in_e 2 1 0 0 2 3 (domains 1 0 0) (domains 1 1 0) (domains 0 0 0) 2 0 0 none_waiting (known 0x4000_0000_0000_0000))
          ∷ (0, in_e 3 1 0 0 2 2 (domains 0 0 0) (domains 2 1 0) (domains 0 0 0) 2 0 15 none_waiting (known 0x4000_0000_0000_0000))
          ∷ (0, in_e 4 1 0 0 1 3 (domains 0 0 0) (domains 2 1 0) (domains 0 1 0) 2 0 15 none_waiting (known 0x4000_0000_0000_0000))
          ∷ (0, in_e 0 2 0 0 1 2 (domains 3 1 0) (domains 0 0 0) (domains 0 0 0) 1 0 0 none_waiting (known 0x4002_0000_0000_0000))
          ∷ (0, in_e 0 2 0 0 1 2 (domains 3 1 0) (domains 0 0 0) (domains 0 0 0) 1 0 0 (awaiting read_e) (known 0x4002_0000_0000_0000))
          ∷ (0, in_e 1 2 0 0 1 3 (domains 3 0 0) (domains 0 1 0) (domains 0 0 0) 1 0 0 (awaiting read_e) (known 0x4002_0000_0000_0000))
          ∷ (0, in_e 2 2 0 1 1 1 (domains 3 0 0) (domains 0 1 0) (domains 0 0 0) 1 0 14 (awaiting read_e) (known 0x4002_0000_0000_0000))
          ∷ (0, in_e 3 2 0 1 1 2 (domains 2 0 0) (domains 1 1 0) (domains 0 0 0) 1 0 14 (awaiting read_e) (known 0x4002_0000_0000_0000))
          ∷ (0, in_e 4 2 0 1 0 3 (domains 2 0 0) (domains 1 1 0) (domains 0 1 0) 1 0 14 (awaiting read_e) (known 0x4002_0000_0000_0000))
          ∷ (0, in_e 0 3 0 0 0 3 (domains 4 1 0) (domains 0 0 0) (domains 0 0 0) 0 0 0 none_waiting Unknown)
          ∷ []);
    }
    -- its verdicts and counts: "The share rule counts these as the domain's own yields"
    ∷ record {
      input = calls plan_e forecasting;
      outcome =
          answers 0
          (shows 6 1 2 0 (pos 0) none 1
          ∷ shows 6 2 1 0 (pos 0) none 0
          ∷ shows 0 1 0 0 (negsuc 0) none 15
          ∷ shows 0 1 0 0 (negsuc 0) none 16
          ∷ shows 1 0 0 0 (pos 2) (some (counts_e 0 1 (domains 2 1 0) (domains 0 0 0) 0 1 47)) 15
          ∷ shows 2 1 2 0 (pos 2) none 0
          ∷ shows 2 2 1 0 (pos 2) none 0
          ∷ shows 0 1 2 0 (pos 2) none 15
          ∷ shows 2 2 1 0 (pos 1) none 0
          ∷ shows 0 1 4 0 (pos 1) (some (counts_e 0 0 (domains 2 1 0) (domains 1 1 0) 2 0 30)) 15
          ∷ yields 0 (pos 1)
          ∷ shows 2 2 1 0 (pos 1) none 0
          ∷ shows 1 0 2 0 (pos 0) none 14
          ∷ shows 0 1 6 0 (pos 0) none 0
          ∷ shows 0 0 1 0 (negsuc 0) none 0
          ∷ shows 0 0 4 0 (pos 0) (some (counts_e 1 1 (domains 1 1 0) (domains 0 1 0) 1 0 31)) 17
          ∷ []);
    }
    ∷ record {
      input = replayed plan_e forecast_text;
      outcome =
          prints
          (bytes "period idle best domains\n1 0 1 1:2+0-0w1 2:1+0-0w0 s47\n2 0 0 1:2+1-2w0 2:1+1-0w0 s30\n3 1 1 1:1+0-1w0 2:1+1-0w0 s31\nopen 0\n");
    }
    -- "An estimate may be any float": a NaN, or one that does not go with the claim
    ∷ record { input = given (open_e read_e 4 0 (Known nan) Unknown Unknown) (yield 1 1); outcome = yields_of 0 (pos 1) }
    ∷ record { input = given (open_e read_e 2 2 Unknown Unknown Unknown) (yield 1 1); outcome = yields_of 0 (pos 3) }
    -- ", but a domain not marked has none if the state adds up": domain 2, and domain 3, which is absent
    ∷ record { input = given (open_e read_e 4 0 Unknown (known 0) Unknown) (yield 1 1); outcome = yields_of 30 (pos 0) }
    ∷ record { input = given (open_e read_e 4 0 Unknown Unknown (Known nan)) (yield 1 1); outcome = yields_of 30 (pos 0) }
    -- a close from any estimate: of a NaN the need is Q; of −1 and 3 passes the estimate is 0; a domain not marked keeps its claim
    ∷ record { input = stepped (last_e read_e (Known nan)) (offer 1 0 0); outcome = returns 0 (after_e read_e 4 0 (Known nan)) }
    ∷ record { input = stepped (last_e read_e (known 0xbff0_0000_0000_0000)) (offer 1 0 0); outcome = returns 0 (after_e read_e 0 4 (known 0)) }
    ∷ record {
      input = stepped (last_e (value_e (replicate 16 false)) Unknown) (offer 1 0 0);
      outcome = returns 0 (after_e (value_e (replicate 16 false)) 4 0 Unknown);
    }
    -- "z + (c − z) × 0.25 .. in 64-bit floats, each operation rounded once", in bits: 4 and 0; 9/4 and 1
    ∷ record { input = closing (known 0x4010_0000_0000_0000) 0; outcome = estimate (known 0x4008_0000_0000_0000) }
    ∷ record { input = closing (known 0x4002_0000_0000_0000) 1; outcome = estimate (known 0x3fff_0000_0000_0000) }
    -- where another order, z × 0.75 + c × 0.25, or one rounding of the exact result has another last bit
    ∷ record { input = closing (known 0x3fff_fdb0_2cfd_8017) 3; outcome = estimate (known 0x4001_ff22_10df_1009) }
    ∷ record { input = closing (known 0x3fff_fdb0_2cfd_8017) 4; outcome = estimate (known 0x4003_ff22_10df_1008) }
    -- of −0, the smallest float, and an infinity
    ∷ record { input = closing (known 0x8000_0000_0000_0000) 0; outcome = estimate (known 0) }
    ∷ record { input = closing (known 1) 0; outcome = estimate (known 1) }
    ∷ record { input = closing (known 0x7ff0_0000_0000_0000) 3; outcome = estimate (Known nan) }
    -- "its need: the smallest whole number from 0 to Q at or above the estimate": exactly 3, the float above it and the one below, 9/4
    ∷ record { input = needing (known 0x4008_0000_0000_0000) 5; outcome = need 3 }
    ∷ record { input = needing (known 0x4008_0000_0000_0001) 5; outcome = need 4 }
    ∷ record { input = needing (known 0x4007_ffff_ffff_ffff) 5; outcome = need 3 }
    ∷ record { input = needing (known 0x4002_0000_0000_0000) 5; outcome = need 3 }
    -- of −1, −∞, −0 and the smallest float above 0
    ∷ record { input = needing (known 0xbff0_0000_0000_0000) 5; outcome = need 0 }
    ∷ record { input = needing (known 0xfff0_0000_0000_0000) 5; outcome = need 0 }
    ∷ record { input = needing (known 0x8000_0000_0000_0000) 5; outcome = need 0 }
    ∷ record { input = needing (known 1) 5; outcome = need 1 }
    -- ", or Q if there is none (as for a NaN) or no estimate": 4,096, ∞, a NaN, no estimate; and Q 0
    ∷ record { input = needing (known 0x40b0_0000_0000_0000) 5; outcome = need 5 }
    ∷ record { input = needing (known 0x7ff0_0000_0000_0000) 5; outcome = need 5 }
    ∷ record { input = needing (Known nan) 5; outcome = need 5 }
    ∷ record { input = needing Unknown 5; outcome = need 5 }
    ∷ record { input = needing (known 0x4002_0000_0000_0000) 0; outcome = need 0 }
    ∷ []
