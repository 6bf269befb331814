-- Laws of the calls' steps, one for each case: the grant, the end of a slot, and what a call answers.
-- Assumes nothing.
use mathlib.Core.Path.{◌≡◌, refl, ap, ◌∙◌, sym}
use mathlib.Core.Logic.{◌≢◌}
use mathlib.Core.Bool.{Bool, true, false, cond}
use mathlib.Core.List.{List}
use Prim.Native.Nat.{ℕ, ◌+◌, ◌-◌, ◌<◌}
use native.Mathlib.Decide.{ℕ_discrete}
use native.Mathlib.Omega.{arith}
use lib.Dec.{eqb, ltb}
use lib.ListN.{length}
use borrow.Author.Tests.{eq-eqb, ne_eqb, lt-ltb, le-ltb}
use Rattle.table.specs.Sums.{nth}
use Rattle.table.proofs.Tables.{miss, hit}
use Rattle.plan.specs.declared.value.Plan.{Plan}
use Rattle.plan.specs.Value.{Refusal}
use Rattle.regulator.specs.State.{yielding, handing}
use Rattle.regulator.specs.Turn.{granted, steps_of, verdicts}
use Rattle.regulator.specs.Grant.{on_claim, on_stock, on_neither, on_writeback, domain_grant, grant, onward, decided_of}
use Rattle.regulator.specs.Close.{next_plan, without_counts, with_counts, ended, Answer}
use Rattle.regulator.specs.Refusals.{slot_refusal, yield_refusal, hand_refusal}
use Rattle.regulator.specs.Calls.{one_slot, slot_of, verdicts_in, yield_of, hand_of, Handing}
use Rattle.regulator.specs.declared.state.State.{State}

-- the grant: of nobody, of best effort, of the domain at index j
module _ (s : State) (o : List ℕ) where
  pub grant_none : grant s o 17 ≡ on_neither s (s.idle + 1) s.best
  unfolding grant
  grant_none = refl

  pub grant_best : grant s o 0 ≡ on_neither s s.idle (s.best + 1)
  unfolding grant
  grant_best = refl

  pub grant_domain : (j : ℕ) → j < 16 → grant s o (j + 1) ≡ domain_grant s j (eqb (nth o (j + 1)) 2)
  unfolding grant
  grant_domain j h =
      let q : j + 1 - 1 ≡ j = omega arith in
      miss _ _ _ (ne_eqb (j + 1) 17 (λ z. omega arith))
      ∙ miss _ _ _ (ne_eqb (j + 1) 0 (λ z. omega arith))
      ∙ ap (λ (i : ℕ). domain_grant s i (eqb (nth o (j + 1)) 2)) q

module _ (s : State) (j : ℕ) where
  pub grant_claim : 0 < nth s.claim j → domain_grant s j false ≡ on_claim s j
  unfolding domain_grant
  grant_claim h = hit _ _ _ (lt-ltb 0 (nth s.claim j) h)

  pub grant_stock : nth s.claim j ≡ 0 → domain_grant s j false ≡ on_stock s j
  unfolding domain_grant
  grant_stock h = miss _ _ _ (le-ltb 0 (nth s.claim j) (omega arith))

  pub grant_writeback : (claimed : Bool) → ltb 0 (nth s.writebackclaim j) ≡ claimed → domain_grant s j true ≡ on_writeback s j claimed
  unfolding domain_grant
  grant_writeback claimed e = ap (on_writeback s j) e

-- a decided slot, by what is granted
module _ (s : State) (o : List ℕ) where
  abbrev to : ℕ → State → State
  to n t = onward t n (steps_of s o)

  pub decided_none : decided_of s o 17 ≡ onward (on_neither s (s.idle + 1) s.best) 17 (steps_of s o)
  decided_none = ap (to 17) (grant_none s o)

  pub decided_best : decided_of s o 0 ≡ onward (on_neither s s.idle (s.best + 1)) 0 (steps_of s o)
  decided_best = ap (to 0) (grant_best s o)

  module _ (j : ℕ) (h : j < 16) where
    -- an access
    module _ (w : nth o (j + 1) ≢ 2) where
      access : grant s o (j + 1) ≡ domain_grant s j false
      access = grant_domain s o j h ∙ ap (domain_grant s j) (ne_eqb _ 2 w)

      pub decided_claim : 0 < nth s.claim j → decided_of s o (j + 1) ≡ onward (on_claim s j) (j + 1) (steps_of s o)
      decided_claim c = ap (to (j + 1)) (access ∙ grant_claim s j c)

      pub decided_stock : nth s.claim j ≡ 0 → decided_of s o (j + 1) ≡ onward (on_stock s j) (j + 1) (steps_of s o)
      decided_stock c = ap (to (j + 1)) (access ∙ grant_stock s j c)

    -- a writeback
    pub decided_writeback : nth o (j + 1) ≡ 2 → (claimed : Bool) → ltb 0 (nth s.writebackclaim j) ≡ claimed
        → decided_of s o (j + 1) ≡ onward (on_writeback s j claimed) (j + 1) (steps_of s o)
    decided_writeback w claimed e =
        ap (to (j + 1)) (grant_domain s o j h ∙ ap (domain_grant s j) (eq-eqb _ 2 w) ∙ grant_writeback s j claimed e)

-- a grant leaves T, the closed periods, the sum of steps, and the plan of the period after
pub grant_time : (s : State) (o : List ℕ) (n : ℕ)
    → ((grant s o n).decided ≡ s.decided) × ((grant s o n).closed ≡ s.closed) × ((grant s o n).steps ≡ s.steps) × (next_plan (grant s o n) ≡ next_plan s)
unfolding grant domain_grant
grant_time s o n = go (eqb n 17) (eqb n 0) (eqb (nth o n) 2) (ltb 0 (nth s.claim (n - 1)))
  where
    after_grant : Bool → Bool → Bool → Bool → State
    after_grant a b w c =
        cond a (on_neither s (s.idle + 1) s.best)
        (cond b (on_neither s s.idle (s.best + 1))
        (cond w (on_writeback s (n - 1) (ltb 0 (nth s.writebackclaim (n - 1))))
        (cond c (on_claim s (n - 1)) (on_stock s (n - 1)))))

    go : (a b w c : Bool)
        → ((after_grant a b w c).decided ≡ s.decided) × ((after_grant a b w c).closed ≡ s.closed) × ((after_grant a b w c).steps ≡ s.steps)
        × (next_plan (after_grant a b w c) ≡ next_plan s)
    go true b w c = (refl, refl, refl, refl)
    go false true w c = (refl, refl, refl, refl)
    go false false true c = (refl, refl, refl, refl)
    go false false false true = (refl, refl, refl, refl)
    go false false false false = (refl, refl, refl, refl)

-- the end of a slot
module _ (s : State) (steps : ℕ) where
  pub ended_open : s.decided ≢ s.plan.period → ended s steps ≡ without_counts 0 s steps
  unfolding ended
  ended_open h = miss _ _ _ (ne_eqb s.decided s.plan.period h)

  pub ended_complete : s.decided ≡ s.plan.period → ended s steps ≡ with_counts s steps
  unfolding ended
  ended_complete h = hit _ _ _ (eq-eqb s.decided s.plan.period h)

  -- either way it is not refused, and tells its steps
  pub ended_told : ((ended s steps).refused ≡ 0) × ((ended s steps).steps ≡ steps)
  ended_told = go (ℕ_discrete s.decided s.plan.period)
    where
      go : Dec (s.decided ≡ s.plan.period) → ((ended s steps).refused ≡ 0) × ((ended s steps).steps ≡ steps)
      go (yes q) = (ap (λ (a : Answer). a.refused) (ended_complete q), ap (λ (a : Answer). a.steps) (ended_complete q))
      go (no q) = (ap (λ (a : Answer). a.refused) (ended_open q), ap (λ (a : Answer). a.steps) (ended_open q))

  -- and keeps the turn, also where the period ends
  pub ended_turn : (ended s steps).state.turn ≡ s.turn
  ended_turn = go (ℕ_discrete s.decided s.plan.period)
    where
      go : Dec (s.decided ≡ s.plan.period) → (ended s steps).state.turn ≡ s.turn
      go (yes q) = ap (λ (a : Answer). a.state.turn) (ended_complete q)
      go (no q) = ap (λ (a : Answer). a.state.turn) (ended_open q)

-- a slot call that is refused, and one that is not
module _ (s : State) (o : List ℕ) where
  pub slot_refused : (room : ℕ) → slot_refusal s o room ≢ 0 → slot_of s o room ≡ without_counts (slot_refusal s o room) s 0
  unfolding slot_of
  slot_refused room h = miss _ _ _ (ne_eqb (slot_refusal s o room) 0 h)

  pub slot_decided : (room : ℕ) → slot_refusal s o room ≡ 0 → slot_of s o room ≡ ended (decided_of s o (granted s o)) (steps_of s o)
  unfolding slot_of one_slot
  slot_decided room h = hit _ _ _ (eq-eqb (slot_refusal s o room) 0 h)

  pub slot_number : (room : ℕ) → (slot_of s o room).refused ≡ slot_refusal s o room
  slot_number room = go (ℕ_discrete (slot_refusal s o room) 0)
    where
      go : Dec (slot_refusal s o room ≡ 0) → (slot_of s o room).refused ≡ slot_refusal s o room
      go (yes q) = ap (λ (a : Answer). a.refused) (slot_decided room q) ∙ (ended_told _ _).0 ∙ sym q
      go (no q) = ap (λ (a : Answer). a.refused) (slot_refused room q)

  pub steps_told : (room : ℕ) → slot_refusal s o room ≡ 0 → (slot_of s o room).steps ≡ steps_of s o
  steps_told room h = ap (λ (a : Answer). a.steps) (slot_decided room h) ∙ (ended_told _ _).1

  pub shown_refused : (b : List ℕ) → slot_refusal s o (length b) ≢ 0 → verdicts_in s o b ≡ b
  unfolding verdicts_in
  shown_refused b h = miss _ _ _ (ne_eqb (slot_refusal s o (length b)) 0 h)

  pub shown_decided : (b : List ℕ) → slot_refusal s o (length b) ≡ 0 → verdicts_in s o b ≡ verdicts s o
  unfolding verdicts_in
  shown_decided b h = hit _ _ _ (eq-eqb (slot_refusal s o (length b)) 0 h)

-- a yield that is refused, and one that is not
module _ (s : State) (d k : ℕ) where
  pub yield_number : (yield_of s d k).refused ≡ yield_refusal s d k
  unfolding yield_of
  yield_number = refl

  pub yield_refused : yield_refusal s d k ≢ 0 → yield_of s d k ≡ record { refused = yield_refusal s d k; state = s }
  unfolding yield_of
  yield_refused h = λ i. record { refused = yield_refusal s d k; state = miss _ (yielding s (d - 1) k) s (ne_eqb (yield_refusal s d k) 0 h) i }

  pub yield_given : yield_refusal s d k ≡ 0 → yield_of s d k ≡ record { refused = 0; state = yielding s (d - 1) k }
  unfolding yield_of
  yield_given h = λ i. record { refused = h i; state = hit _ (yielding s (d - 1) k) s (eq-eqb (yield_refusal s d k) 0 h) i }

-- what handing in tells, with a state
abbrev pub answered : Refusal → State → Handing
answered r s = record { refused = r.refused; place = r.place; state = s }

-- a plan handed in that is refused, and one that is not
module _ (s : State) (p : Plan) where
  pub hand_number : (hand_of s p).refused ≡ (hand_refusal s p).refused
  unfolding hand_of
  hand_number = refl

  pub hand_refused : (hand_refusal s p).refused ≢ 0 → hand_of s p ≡ answered (hand_refusal s p) s
  unfolding hand_of
  hand_refused h = ap (answered (hand_refusal s p)) (miss _ (handing s p) s (ne_eqb (hand_refusal s p).refused 0 h))

  pub hand_given : (hand_refusal s p).refused ≡ 0 → hand_of s p ≡ answered (hand_refusal s p) (handing s p)
  unfolding hand_of
  hand_given h = ap (answered (hand_refusal s p)) (hit _ (handing s p) s (eq-eqb (hand_refusal s p).refused 0 h))
