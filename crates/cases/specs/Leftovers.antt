-- Cases of document 02, Point 5: plan files with and without leftovers, read by both rules.
-- Assumes nothing.
use Rattle.std.specs.Prelude.{ℕ, ◌+◌, ◌-◌, List, [], ◌∷◌, ◌++◌, true, false, replicate}
use Rattle.plan.specs.Reading.{refused_reading, accepted_reading, Reading}
use Rattle.plan.specs.Writing.{records_from}
use Rattle.plan.specs.declared.value.Plan.{Plan}
use Rattle.script.specs.Text.{bytes}
use Rattle.cases.specs.Case.{both, summed, value, replayed, Outcome, readings, writing, prints, Case}
use Rattle.cases.specs.Cases.{head, domain, plan_a, value_of, tells}

-- a record of zeros, and one of zeros but for byte k, which is 1
abbrev spare : List ℕ
spare = replicate 16 0

abbrev byte_at : (k : ℕ) → List ℕ
byte_at k = replicate k 0 ++ (1 ∷ replicate (15 - k) 0)

-- record 0 of P 4 that names another first record
abbrev first : (index : ℕ) → List ℕ
first index = 4 ∷ 0 ∷ index ∷ replicate 13 0

-- the records of plan A's domains: that of domain 1 with another next or Q, that of domain 2 with another Q
abbrev one : (next Q : ℕ) → List ℕ
one next Q = domain next 1 0 Q 1 4

abbrev two : (Q : ℕ) → List ℕ
two Q = domain 0 2 0 Q 0 0

-- plan A with a record more, which is off the chain: domain 3, with a Q that brings the sum above P
abbrev left_over : List ℕ
left_over = plan_a ++ domain 0 3 0 4 0 0

-- plan A with records 1 and 3 on the chain, or 2 and 3, and the bytes of the other
abbrev around : (other : List ℕ) → List ℕ
around other = first 1 ++ (one 3 2 ++ (other ++ two 1))

abbrev behind : (other : List ℕ) → (Q1 Q2 : ℕ) → List ℕ
behind other Q1 Q2 = first 2 ++ (other ++ (one 3 Q1 ++ two Q2))

-- all sixteen domains, each with a Q of 1
abbrev sixteen : List ℕ
sixteen = head 16 0 ++ (records_from (λ (k : ℕ). domain (k + 1) k 0 1 0 0) 1 15 ++ domain 0 16 0 1 0 0)

abbrev value_of_sixteen : Plan
value_of_sixteen =
    record {
      period = 16;
      planned = replicate 16 true;
      reservation = replicate 16 1;
      reclaimcap = replicate 16 0;
      writebackcap = replicate 16 0;
      writebackreservation = replicate 16 0;
      marked = replicate 16 false;
    }

abbrev value_of_none : Plan
value_of_none =
    record {
      period = 4;
      planned = replicate 16 false;
      reservation = replicate 16 0;
      reclaimcap = replicate 16 0;
      writebackcap = replicate 16 0;
      writebackreservation = replicate 16 0;
      marked = replicate 16 false;
    }

-- both rules answer alike: the plan, or a refusal
abbrev alike : Reading → Outcome
alike r = readings r r

abbrev taken : Plan → Outcome
taken p = alike (accepted_reading p)

abbrev refused : ℕ → ℕ → Outcome
refused n place = alike (refused_reading n place)

-- or there is a leftover: 12 at its index, and the plan by the earlier rule
abbrev twelve : (place : ℕ) → Plan → Outcome
twelve place p = readings (refused_reading 12 place) (accepted_reading p)

abbrev value_a : Plan
value_a = value_of 4 2

abbrev pub leftovers : List Case
leftovers =
    -- "each record from 1 up off the chain must be all zero": behind the chain, in it and before it
    record { input = both (plan_a ++ spare); outcome = taken value_a }
    ∷ record { input = both (around spare); outcome = taken value_a }
    ∷ record { input = both (behind spare 2 1); outcome = taken value_a }
    ∷ record { input = both (around (two 1)); outcome = twelve 2 value_a }
    ∷ record { input = both (behind (one 2 2) 2 1); outcome = twelve 1 value_a }
    -- not zero in one byte: the first, the domain's number, and the last of the file
    ∷ record { input = both (plan_a ++ byte_at 0); outcome = twelve 3 value_a }
    ∷ record { input = both (plan_a ++ byte_at 2); outcome = twelve 3 value_a }
    ∷ record { input = both (plan_a ++ byte_at 15); outcome = twelve 3 value_a }
    -- document 01, 'Misreadings to rule out': "Summing Q over records off the chain"; nor does the walk tell their sums
    ∷ record { input = both left_over; outcome = twelve 3 value_a }
    ∷ record { input = summed left_over; outcome = tells 2 (2 ∷ 3 ∷ replicate 14 0) }
    -- "its lowest index": of two that are left, and behind one of zeros; they name each other
    ∷ record { input = both (plan_a ++ (byte_at 15 ++ byte_at 0)); outcome = twelve 3 value_a }
    ∷ record { input = both (plan_a ++ (spare ++ (byte_at 0 ++ byte_at 2))); outcome = twelve 4 value_a }
    ∷ record { input = both (plan_a ++ (domain 4 3 0 0 0 0 ++ domain 3 4 0 0 0 0)); outcome = twelve 3 value_a }
    -- record 0 is not asked
    ∷ record { input = both (first 0); outcome = taken value_of_none }
    ∷ record { input = both (first 0 ++ spare); outcome = taken value_of_none }
    ∷ record { input = both (first 0 ++ two 1); outcome = twelve 1 value_of_none }
    -- the longest chain, and the longest file
    ∷ record { input = both sixteen; outcome = taken value_of_sixteen }
    ∷ record { input = both (sixteen ++ byte_at 2); outcome = twelve 17 value_of_sixteen }
    ∷ record { input = both (plan_a ++ (replicate 960 0 ++ byte_at 15)); outcome = twelve 63 value_a }
    -- "checked after 10", and so after all that is met on the chain, also where the leftover stands before it
    ∷ record { input = both (behind (byte_at 2) 4 1); outcome = refused 10 0 }
    ∷ record { input = both (behind (byte_at 2) 3 1); outcome = twelve 1 (value_of 4 3) }
    ∷ record { input = both (behind (byte_at 2) 2 5); outcome = refused 9 3 }
    ∷ record { input = both (first 2 ++ (byte_at 2 ++ one 4 2)); outcome = refused 4 4 }
    ∷ record { input = both (first 2 ++ (byte_at 2 ++ one 2 2)); outcome = refused 5 2 }
    ∷ record { input = both (first 1 ++ (spare ++ byte_at 2)); outcome = refused 6 1 }
    ∷ record { input = both (5 ∷ 16 ∷ replicate 14 0 ++ byte_at 2); outcome = refused 2 0 }
    ∷ record { input = both (plan_a ++ (1 ∷ [])); outcome = refused 1 0 }
    -- writing "touches nothing behind the last record", so a longer buffer read whole may have leftovers
    ∷ record {
      input = value value_a (replicate 64 7);
      outcome = writing (record { refused = 0; place = 0; bytes = 48 }) (plan_a ++ replicate 16 7);
    }
    ∷ record { input = both (plan_a ++ replicate 16 7); outcome = twelve 3 value_a }
    -- the replay reads by the new rule
    ∷ record { input = replayed left_over (bytes "s 31100000000000000\n"); outcome = prints (bytes "plan refused 12 at 3\n") }
    ∷ []
