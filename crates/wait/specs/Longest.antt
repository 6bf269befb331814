-- Runs on plan A, which plans two domains, in which a number is put off twice: the premise of the bound can be met, and a smaller bound
-- would not hold. And runs that the bound leaves out, in which a number is put off longer.
-- Assumes nothing.
use Rattle.std.specs.Prelude.{ℕ, ◌+◌, ◌≡◌, List, [], ◌∷◌, ◌++◌, map, length, replicate}
use Rattle.table.specs.Sums.{nth}
use Rattle.plan.specs.declared.value.Plan.{Plan}
use Rattle.regulator.specs.Calls.{open_plan}
use Rattle.share.specs.Call.{Call, slot, yield, hand_in}
use Rattle.share.specs.Run.{run}
use Rattle.share.specs.Share.{Every}
use Rattle.cases.specs.Cases.{value_of, plan_b, three, offer, offer3, handing_in, script}
use Rattle.wait.specs.Wait.{Decision, decisions, domain_count, in_a_row, Passes, Under}

-- what plan A is read as
abbrev pub read_a : Plan
read_a = value_of 4 2

-- the decided slots of calls on plan A, opened
abbrev pub decided_on : List Call → List Decision
decided_on cs = let s = (open_plan read_a).state in decisions s (run s cs)

-- the verdicts of each slot; those of one number
abbrev pub shown_in : List Decision → List (List ℕ)
shown_in slots = map (λ (d : Decision). d.verdicts) slots

abbrev pub verdicts_of : ℕ → List Decision → List ℕ
verdicts_of number slots = map (λ (d : Decision). nth d.verdicts number) slots

-- A number that is put off as long as can be: with n domains planned it passes in n + 1 slots in a row, with these verdicts, and is
-- granted in the last one only.
pub record PutOff (number : ℕ) (row : List Decision) (told : List (List ℕ)) : Type 0 where
  pub long : length row ≡ domain_count read_a + 1
  pub passes : Every (Passes number) row
  pub under : Every (Under read_a) row
  pub verdicts : shown_in row ≡ told
  pub last : verdicts_of number row ≡ replicate (domain_count read_a) 2 ++ (1 ∷ [])

-- Domain 1 in the last slot of a period and the first two of the next: between them a yield is refused with 23, one is taken, and a slot is
-- refused with 31. The calls `cs` come before that last slot.
abbrev over_two_periods : List Call → List Call
over_two_periods cs =
    offer 0 1 0 ∷ offer 0 0 0 ∷ offer 0 0 0 ∷ cs
    ++ (offer 1 1 1 ∷ yield 1 3 ∷ yield 1 1 ∷ slot (replicate 17 1) [] ∷ offer 1 1 1 ∷ offer 1 1 1 ∷ [])

-- Best effort in the last three slots of a period, of which domain 1 has yielded 1.
abbrev of_best_effort : List Call
of_best_effort = yield 1 1 ∷ replicate 4 (offer 1 1 1)

-- The third run is Point 1's (`handing_in`): domain 2 in its first three slots, with plan B waiting, a plan refused with 10 and calls refused
-- with 33 and 21 before the last. In the fourth plan A is handed in once more, and takes force, an equal plan, after the first slot.
pub record LongestWaits : Type 0 where
  pub planned : domain_count read_a ≡ 2
  pub periods : PutOff 1 (in_a_row 3 3 (decided_on (over_two_periods []))) (three 6 2 1 ∷ three 1 2 2 ∷ three 2 1 2 ∷ [])
  pub best : PutOff 0 (in_a_row 1 3 (decided_on of_best_effort)) (three 2 1 2 ∷ three 2 2 1 ∷ three 1 2 4 ∷ [])
  pub waiting : PutOff 2 (in_a_row 0 3 (decided_on handing_in)) (three 1 2 2 ∷ three 6 1 2 ∷ three 6 2 1 ∷ [])
  pub equal : PutOff 1 (in_a_row 3 3 (decided_on (over_two_periods (hand_in read_a ∷ [])))) (three 6 2 1 ∷ three 1 2 2 ∷ three 2 1 2 ∷ [])

-- Domain 1 passes in four slots in a row; plan B takes force after the first of them.
abbrev under_two_plans : List Call
under_two_plans =
    offer 0 1 0 ∷ offer 0 0 0 ∷ offer 0 0 0 ∷ hand_in plan_b ∷ offer 1 1 1 ∷ offer3 1 1 1 ∷ offer3 1 1 1 ∷ offer3 1 1 1 ∷ []

-- seventeen numbers, of which those of 0, 1 and 3 are given
abbrev with_three : ℕ → ℕ → ℕ → List ℕ
with_three a b d = a ∷ b ∷ 0 ∷ d ∷ replicate 13 0

-- Domain 2 passes in two slots and, after one in which it makes no offer, in two more.
abbrev passed_over : List Call
passed_over = offer 1 1 1 ∷ offer 1 1 1 ∷ offer 1 0 0 ∷ offer 0 1 1 ∷ offer 1 1 1 ∷ []

-- What the bound leaves out: two domains are planned in each of these runs, and a number is put off three times.
pub record LeftOut : Type 0 where
  -- "under one plan": plan B plans two domains as plan A does
  pub planned : domain_count plan_b ≡ domain_count read_a
  pub plans : map (λ (d : Decision). d.plan) (in_a_row 3 4 (decided_on under_two_plans)) ≡ read_a ∷ replicate 3 plan_b
  pub renewed : shown_in (in_a_row 3 4 (decided_on under_two_plans)) ≡ three 6 2 1 ∷ with_three 2 2 1 ∷ with_three 1 2 5 ∷ with_three 6 1 5 ∷ []
  -- "in a row": domain 2 passes in three slots before it is granted
  pub passed : shown_in (decided_on passed_over) ≡ three 1 2 2 ∷ three 6 1 2 ∷ three 1 0 0 ∷ three 0 1 2 ∷ three 2 2 1 ∷ []
  -- "passes the rules": best effort is blocked, with 6, in three slots of document 01's run
  pub blocked : verdicts_of 0 (in_a_row 1 3 (decided_on script)) ≡ replicate 3 6
