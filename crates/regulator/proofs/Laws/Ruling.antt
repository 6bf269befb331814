-- Laws of the rulings, of the number that is granted, and of the verdicts told.
-- Assumes nothing.
use mathlib.Core.Path.{◌≡◌, refl, sym, ap, subst, ◌∙◌}
use mathlib.Core.Logic.{◌≢◌, ◌⊎◌, inl, inr}
use mathlib.Core.Bool.{Bool, true, false, cond, not, ◌&&◌, false≢true}
use mathlib.Core.List.{List}
use Prim.Native.Nat.{ℕ, ◌+◌, ◌-◌, ◌≤◌, ◌<◌}
use native.Mathlib.Decide.{dec_lt, ℕ_discrete}
use native.Mathlib.Omega.{arith}
use lib.Dec.{eqb, ltb}
use lib.ListN.{length, length-set, get_or-eq_default}
use lib.Seq.{get_or-set_same, get_or-set_other}
use borrow.Author.Tests.{eqb-true, eqb-false, eq-eqb, ne_eqb, ltb-true, le-ltb}
use Rattle.table.specs.Sums.{nth}
use Rattle.table.specs.Ranges.{lowest}
use Rattle.table.proofs.Tables.{miss, hit, both, and_both}
use Rattle.table.proofs.Searches.{lowest_at, lowest_none}
use Rattle.table.proofs.Filling.{values_length, values_at}
use Rattle.regulator.specs.Verdict.{at_cap, claim_of, waits, waiting, blocked, ruling, best_ruling, domain_ruling, ruling_at, ruling_of, passes}
use Rattle.regulator.specs.Turn.{ask, granted, steps_of, distance, StepsAreDistance, rulings, verdicts}
use Rattle.regulator.specs.declared.state.State.{State}
use Rattle.regulator.proofs.Laws.Asking.{ask_passes, ask_most, passed_distance, ask_same, none_passes}

-- what a ruling of 2 tells of the lines' tests, what waiting on claim is ruled, and that no ruling is 1
ruling_passes : (n c q f d b : Bool) → ruling n c q f d b ≡ 2
    → (n ≡ false) × (c ≡ false) × (q ≡ false → (f ≡ false) × (d ≡ false) × (b ≡ false))
unfolding ruling
ruling_passes true c q f d b e = absurd (omega arith)
ruling_passes false true q f d b e = absurd (omega arith)
ruling_passes false false true f d b e = (refl, refl, λ z. absurd (false≢true (sym z)))
ruling_passes false false false true d b e = absurd (omega arith)
ruling_passes false false false false true b e = absurd (omega arith)
ruling_passes false false false false false true e = absurd (omega arith)
ruling_passes false false false false false false e = (refl, refl, λ z. (refl, refl, refl))

ruling_waits : (n c q f d b : Bool) → (not n && q) ≡ true → c ≡ false → ruling n c q f d b ≡ 2
unfolding ruling
ruling_waits true c q f d b e h = absurd (false≢true e)
ruling_waits false c false f d b e h = absurd (false≢true e)
ruling_waits false true true f d b e h = absurd (false≢true (sym h))
ruling_waits false false true f d b e h = refl

ruling_not_one : (n c q f d b : Bool) → ruling n c q f d b ≢ 1
unfolding ruling
ruling_not_one true c q f d b e = omega arith
ruling_not_one false true q f d b e = omega arith
ruling_not_one false false true f d b e = omega arith
ruling_not_one false false false true d b e = omega arith
ruling_not_one false false false false true b e = omega arith
ruling_not_one false false false false false true e = omega arith
ruling_not_one false false false false false false e = omega arith

-- so many steps are there where number n is granted, or none at 17
pub record StepsFit (n k : ℕ) : Type 0 where
  pub none : n ≡ 17 → k ≡ 17
  pub some : n ≢ 17 → k ≤ 16

module _ (s : State) (o : List ℕ) where
  -- the ruling of best effort, and of the domain at index j
  pub ruling_best : ruling_of s o 0 ≡ best_ruling (nth o 0) (blocked s o)
  unfolding ruling_of
  ruling_best = refl

  pub ruling_domain : (j : ℕ) → ruling_of s o (j + 1) ≡ ruling_at s o j
  unfolding ruling_of
  ruling_domain j =
      let q : j + 1 - 1 ≡ j = omega arith in
      miss _ _ _ (ne_eqb (j + 1) 0 (λ z. omega arith)) ∙ ap (ruling_at s o) q

  -- and of the numbers that they are ruled by
  pub best_ruled : (b : Bool) → b ≡ blocked s o → best_ruling (nth o 0) b ≡ ruling_of s o 0
  best_ruled b e = ap (best_ruling (nth o 0)) e ∙ sym ruling_best

  pub domain_ruled : (b : Bool) → b ≡ blocked s o → (j : ℕ)
      → domain_ruling (nth o (j + 1)) (nth s.claim j) (nth s.reclaimed j) (nth s.writebacks j) (nth s.writebackclaim j)
      (nth s.plan.reclaimcap j) (nth s.plan.writebackcap j) s.stock b ≡ ruling_of s o (j + 1)
  unfolding ruling_at
  domain_ruled b e j =
      ap (domain_ruling (nth o (j + 1)) (nth s.claim j) (nth s.reclaimed j) (nth s.writebacks j) (nth s.writebackclaim j)
      (nth s.plan.reclaimcap j) (nth s.plan.writebackcap j) s.stock) e
      ∙ sym (ruling_domain j)

  at_not_one : (j : ℕ) → ruling_at s o j ≢ 1
  unfolding ruling_at
  at_not_one j = ruling_not_one _ _ _ _ _ _

  pub never_one : (n : ℕ) → ruling_of s o n ≢ 1
  unfolding ruling_of
  never_one n = go (eqb n 0)
    where
      go : (b : Bool) → cond b (best_ruling (nth o 0) (blocked s o)) (ruling_at s o (n - 1)) ≢ 1
      go true = ruling_not_one _ _ _ _ _ _
      go false = at_not_one (n - 1)

  -- who passes makes an offer
  at_offers : (j : ℕ) → ruling_at s o j ≡ 2 → nth o (j + 1) ≢ 0
  unfolding ruling_at
  at_offers j e = eqb-false _ 0 (ruling_passes _ _ _ _ _ _ e).0

  pub passing_offers : (n : ℕ) → passes s o n ≡ true → nth o n ≢ 0
  passing_offers n e = go (ℕ_discrete n 0)
    where
      go : Dec (n ≡ 0) → nth o n ≢ 0
      go (yes q) = rw q (eqb-false _ 0 (ruling_passes _ _ _ _ _ _ (sym ruling_best ∙ sym (ap (ruling_of s o) q) ∙ eqb-true _ 2 e)).0)
      go (no q) =
          let r : n ≡ n - 1 + 1 = omega arith in
          subst (λ (i : ℕ). nth o i ≢ 0) (sym r) (at_offers (n - 1) (sym (ruling_domain (n - 1)) ∙ sym (ap (ruling_of s o) r) ∙ eqb-true _ 2 e))

  -- a granted writeback is below the cap
  abbrev pub BelowCap : ℕ → Type 0
  BelowCap j = nth s.writebacks j ≢ nth s.plan.writebackcap j

  -- a domain that is waiting on claim passes, where writeback claim is left below the cap only
  module _ (j : ℕ) (below : 0 < nth s.writebackclaim j → BelowCap j) where
    at_waits : waiting s o j ≡ true → ruling_at s o j ≡ 2
    unfolding waiting waits ruling_at at_cap
    at_waits e = go (eqb (nth o (j + 1)) 2) refl
      where
        kind : Bool → Bool
        kind b = ltb 0 (cond b (nth s.writebackclaim j) (nth s.claim j))

        go : (b : Bool) → eqb (nth o (j + 1)) 2 ≡ b → ruling_at s o j ≡ 2
        go true w =
            let c = (and_both (not (eqb (nth o (j + 1)) 0)) _ e).1 in
            ruling_waits _ _ _ _ _ _ e (rw (w, ne_eqb (nth s.writebacks j) (nth s.plan.writebackcap j) (below (ltb-true 0 _ (sym (ap kind w) ∙ c)))))
        go false w = ruling_waits _ _ _ _ _ _ e (rw w)

    pub waiting_passes : waiting s o j ≡ true → passes s o (j + 1) ≡ true
    waiting_passes e = eq-eqb _ 2 (ruling_domain j ∙ at_waits e)

  -- What holds where number n is granted, or none at 17. Laws of a decided slot start from this alone.
  pub data Granted : ℕ → Type 0 where
    to_none : ((n : ℕ) → n ≤ 16 → passes s o n ≡ false) → Granted 17
    to_best : blocked s o ≡ false → Granted 0
    on_claim_lem : (j : ℕ) → j < 16 → nth o (j + 1) ≢ 2 → 0 < nth s.claim j → Granted (j + 1)
    on_stock_lem : (j : ℕ) → j < 16 → nth o (j + 1) ≢ 2 → nth s.claim j ≡ 0 → nth s.reclaimed j ≢ nth s.plan.reclaimcap j → s.stock ≢ 0
        → blocked s o ≡ false → Granted (j + 1)
    on_writeback_lem : (j : ℕ) → j < 16 → nth o (j + 1) ≡ 2 → BelowCap j → (claimed : Bool) → ltb 0 (nth s.writebackclaim j) ≡ claimed
        → (claimed ≡ false → blocked s o ≡ false) → Granted (j + 1)

  best_granted : ruling_of s o 0 ≡ 2 → Granted 0
  best_granted e = let r = ruling_passes _ _ _ _ _ _ (sym ruling_best ∙ e) in to_best (r.2 refl).2

  -- what a domain that passes tells
  at_passes : (j : ℕ) → ruling_at s o j ≡ 2
      → (at_cap (nth o (j + 1)) (nth s.writebacks j) (nth s.plan.writebackcap j) ≡ false)
      × (ltb 0 (claim_of (nth o (j + 1)) (nth s.claim j) (nth s.writebackclaim j)) ≡ false
      → ((not (eqb (nth o (j + 1)) 2) && eqb (nth s.reclaimed j) (nth s.plan.reclaimcap j)) ≡ false)
      × ((not (eqb (nth o (j + 1)) 2) && eqb s.stock 0) ≡ false) × (blocked s o ≡ false))
  unfolding ruling_at
  at_passes j e = let r = ruling_passes _ _ _ _ _ _ e in (r.1, r.2)

  writeback_granted : (j : ℕ) → j < 16 → nth o (j + 1) ≡ 2 → ruling_at s o j ≡ 2 → Granted (j + 1)
  unfolding at_cap
  writeback_granted j h w e = on_writeback_lem j h w below (ltb 0 (nth s.writebackclaim j)) refl (λ c. ((at_passes j e).1 (rw w c)).2)
    where
      below : BelowCap j
      below y = false≢true (sym (at_passes j e).0 ∙ both (eq-eqb _ 2 w) (eq-eqb _ _ y))

  access_granted : (j : ℕ) → j < 16 → nth o (j + 1) ≢ 2 → ruling_at s o j ≡ 2 → Granted (j + 1)
  access_granted j h w e = go (dec_lt 0 (nth s.claim j))
    where
      kind : eqb (nth o (j + 1)) 2 ≡ false
      kind = ne_eqb _ 2 w

      go : Dec (0 < nth s.claim j) → Granted (j + 1)
      go (yes c) = on_claim_lem j h w c
      go (no c) =
          let f = (at_passes j e).1 (rw kind (le-ltb 0 (nth s.claim j) (omega arith))) in
          let r : eqb (nth s.reclaimed j) (nth s.plan.reclaimcap j) ≡ false = rw kind at f.0 in
          let z : eqb s.stock 0 ≡ false = rw kind at f.1 in
          on_stock_lem j h w (omega arith) (eqb-false _ _ r) (eqb-false _ _ z) f.2

  domain_granted : (j : ℕ) → j < 16 → ruling_at s o j ≡ 2 → Granted (j + 1)
  domain_granted j h e = go (ℕ_discrete (nth o (j + 1)) 2)
    where
      go : Dec (nth o (j + 1) ≡ 2) → Granted (j + 1)
      go (yes w) = writeback_granted j h w e
      go (no w) = access_granted j h w e

  passing_granted : (n : ℕ) → n ≤ 16 → ruling_of s o n ≡ 2 → Granted n
  passing_granted n h e = go (ℕ_discrete n 0)
    where
      go : Dec (n ≡ 0) → Granted n
      go (yes q) = rw q (best_granted (sym (ap (ruling_of s o) q) ∙ e))
      go (no q) =
          let r : n ≡ (n - 1) + 1 = omega arith in
          let d = domain_granted (n - 1) (omega arith) (sym (ruling_domain (n - 1)) ∙ sym (ap (ruling_of s o) r) ∙ e) in
          subst Granted (sym r) d

  module _ (h : s.turn ≤ 16) where
    -- asking the table of rulings is asking the numbers
    pub picked : ask (λ (n : ℕ). eqb (nth (rulings s o) n) 2) s.turn 17 ≡ granted s o
    unfolding granted
    picked =
        ask_same (λ (n : ℕ). eqb (nth (rulings s o) n) 2) (passes s o)
        (λ n q. ap (λ (v : ℕ). eqb v 2) (values_at (ruling_of s o) 0 17 n (omega arith))) s.turn 17 h

    pub granted_most : granted s o ≤ 17
    unfolding granted
    granted_most = ask_most (passes s o) s.turn 17 h

    -- the steps are the distance, and their bounds
    pub steps_distance : steps_of s o ≡ distance s.turn (granted s o)
    unfolding granted steps_of
    steps_distance = passed_distance (passes s o) s.turn h

    pub steps_fit : StepsFit (granted s o) (steps_of s o)
    steps_fit =
        record {
          none = λ e. steps_distance ∙ hit _ _ _ (eq-eqb _ 17 e);
          some = λ e. omega (arith, steps_distance ∙ miss _ _ _ (ne_eqb _ 17 e));
        }

    pub steps_most : steps_of s o ≤ 17
    steps_most = go (ℕ_discrete (granted s o) 17)
      where
        go : Dec (granted s o ≡ 17) → steps_of s o ≤ 17
        go (yes e) = omega (arith, steps_fit.none e)
        go (no e) = omega (arith, steps_fit.some e)

    -- where a number passes, one is granted
    pub some_granted : (n : ℕ) → n ≤ 16 → passes s o n ≡ true → granted s o ≢ 17
    unfolding granted
    some_granted n q e z = false≢true (sym (none_passes (passes s o) s.turn h z n q) ∙ e)

    pub granted_to : Granted (granted s o)
    unfolding granted
    granted_to = go (ask_passes (passes s o) s.turn 17 h)
      where
        go : (granted s o ≡ 17) ⊎ ((granted s o ≤ 16) × (passes s o (granted s o) ≡ true)) → Granted (granted s o)
        go (inl e) = rw e (to_none (none_passes (passes s o) s.turn h e))
        go (inr r) = passing_granted (granted s o) r.0 (eqb-true _ 2 r.1)

  -- a domain that is granted an access without claim finds stock
  pub stock_there : (n : ℕ) → Granted n → 0 < n → n < 17 → nth o n ≢ 2 → nth s.claim (n - 1) ≡ 0 → 0 < s.stock
  stock_there n (to_none p) = λ a b w z. absurd (omega arith)
  stock_there n (to_best b) = λ a b w z. absurd (omega arith)
  stock_there n (on_claim_lem j h k c) = λ a b w z.
      let q : j + 1 - 1 ≡ j = omega arith in
      absurd (omega (arith, ap (nth s.claim) q))
  stock_there n (on_stock_lem j h k c r v d) = λ a b w z. omega (arith, v)
  stock_there n (on_writeback_lem j h k l c e f) = λ a b w z. absurd (w k)

  -- the verdicts: 1 at the granted number, and the ruling elsewhere
  pub verdict_granted : granted s o < 17 → nth (verdicts s o) (granted s o) ≡ 1
  unfolding verdicts
  verdict_granted h = get_or-set_same (rulings s o) (granted s o) 1 0 (omega (arith, values_length (ruling_of s o) 17))

  pub verdict_other : (n : ℕ) → n < 17 → n ≢ granted s o → nth (verdicts s o) n ≡ ruling_of s o n
  unfolding verdicts
  verdict_other n h q = get_or-set_other (rulings s o) (granted s o) n 1 0 q ∙ values_at (ruling_of s o) 0 17 n h

  -- past 16 there is none, as if it were 0
  pub verdict_number : (n : ℕ) → nth (verdicts s o) n ≢ 0 → n ≤ 16
  unfolding verdicts
  verdict_number n h = go (dec_lt n 17)
    where
      go : Dec (n < 17) → n ≤ 16
      go (yes q) = omega arith
      go (no q) =
          let l : length (verdicts s o) ≤ n = omega (arith, length-set (rulings s o) (granted s o) 1, values_length (ruling_of s o) 17) in
          absurd (h (get_or-eq_default (verdicts s o) 0 l))

  -- 2 is told of a number that passes and is not granted
  pub two_told : (n : ℕ) → nth (verdicts s o) n ≡ 2 → (n ≢ granted s o) × (passes s o n ≡ true)
  two_told n e =
      let h = verdict_number n (λ z. omega arith) in
      let d : n ≢ granted s o = λ q. absurd (omega (arith, sym (ap (nth (verdicts s o)) q) ∙ e, verdict_granted (omega (arith, q)))) in
      (d, eq-eqb _ 2 (sym (verdict_other n (omega arith) d) ∙ e))

  verdict_one : (n : ℕ) → n < 17 → n ≢ granted s o → eqb (nth (verdicts s o) n) 1 ≡ false
  verdict_one n h q = ne_eqb _ 1 (λ e. never_one n (sym (verdict_other n h q) ∙ e))

  -- so the number with verdict 1 is the granted one, and there is none where none is granted
  pub one_granted : s.turn ≤ 16 → lowest (λ (n : ℕ). eqb (nth (verdicts s o) n) 1) 17 ≡ granted s o
  one_granted h = go (ℕ_discrete (granted s o) 17)
    where
      test : ℕ → Bool
      test n = eqb (nth (verdicts s o) n) 1

      go : Dec (granted s o ≡ 17) → lowest test 17 ≡ granted s o
      go (yes q) = lowest_none test 0 17 (λ i a b. verdict_one i (omega arith) (λ e. omega arith)) ∙ sym q
      go (no q) =
          let m = granted_most h in
          lowest_at test 0 17 (granted s o) (omega arith) (omega arith) (eq-eqb _ 1 (verdict_granted (omega arith)))
          (λ i a b. verdict_one i (omega arith) (λ e. omega arith))

pub steps_are_distance : StepsAreDistance
steps_are_distance s o h = steps_distance s o h
