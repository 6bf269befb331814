-- How long an offer can be put off, as one claim about every list of calls (document 02, Point 8).
-- Assumes nothing.
use Rattle.std.specs.Prelude.{ℕ, ◌+◌, ◌≡◌, ◌⊎◌, List, [], ◌∷◌, ◌++◌, length, take, drop}
use Rattle.table.specs.Sums.{nth}
use Rattle.plan.specs.Value.{domains_of}
use Rattle.plan.specs.declared.value.Plan.{Plan}
use Rattle.regulator.specs.declared.state.State.{State}
use Rattle.share.specs.Call.{Call}
use Rattle.share.specs.Ledger.{Fed, refused_call, decided_slot, taken_yield, taken_plan}
use Rattle.share.specs.Run.{Made, run, fed}
use Rattle.share.specs.Share.{Every, Some}

-- A decided slot: the plan in force in it, and its verdicts.
pub record Decision : Type 0 where
  pub plan : Plan
  pub verdicts : List ℕ

-- what a call decides: a slot that is not refused is decided, and no other call decides one
unfoldable pub decision_in : Plan → Fed → List Decision
decision_in p (refused_call c) = []
decision_in p (taken_yield d k) = []
decision_in p (taken_plan q) = []
decision_in p (decided_slot offers buffer verdicts steps) = record { plan = p; verdicts = verdicts } ∷ []

-- The decided slots, in order, of calls that were made from a state on. The plan in force is that of the state given to the call: the
-- one that completes a period may return another.
unfoldable pub decisions : State → List Made → List Decision
decisions s [] = []
decisions s (m ∷ ms) = decision_in s.plan (fed m) ++ decisions m.state ms

-- "n domains planned", by the plan's own list
abbrev pub domain_count : Plan → ℕ
domain_count p = length (domains_of p)

-- "in a row": so many of the decided slots, from one on
abbrev pub in_a_row : (first count : ℕ) → List Decision → List Decision
in_a_row first count slots = take count (drop first slots)

-- "is granted": verdict 1
abbrev pub IsGranted : ℕ → Decision → Type 0
IsGranted number d = nth d.verdicts number ≡ 1

-- "passes the rules": verdict 1 or 2
abbrev pub Passes : ℕ → Decision → Type 0
Passes number d = (nth d.verdicts number ≡ 1) ⊎ (nth d.verdicts number ≡ 2)

-- "under one plan": the plan in force is p. So a plan that takes force between two of the slots has to be an equal one.
abbrev pub Under : Plan → Decision → Type 0
Under p d = d.plan ≡ p

-- Point 8: "With n domains planned, a number that passes the rules in n + 1 decided slots in a row, under one plan, is granted in one of
-- them. This holds from any state that adds up, each call given the state that the last one returned, whatever yields, refused calls
-- and plans that still wait come between. The slots may lie in several periods. This covers best effort too", which is number 0.
-- (Nothing is asked of the state: on one that does not add up no slot is decided.)
abbrev pub WaitBound : Type 0
WaitBound = (s : State) (cs : List Call) (p : Plan) (number first : ℕ)
    → let count = domain_count p + 1 in
    let row = in_a_row first count (decisions s (run s cs)) in
    length row ≡ count
    → Every (Passes number) row
    → Every (Under p) row
    → Some (IsGranted number) row
