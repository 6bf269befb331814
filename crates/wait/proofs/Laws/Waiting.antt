-- The bound holds of every list of calls.
-- Assumes nothing.
use mathlib.Core.Path.{◌≡◌, refl, sym, ap, subst, ◌∙◌}
use mathlib.Core.Logic.{◌≢◌, inl, inr}
use mathlib.Core.Bool.{Bool, true, false, not, ◌&&◌, ◌||◌}
use mathlib.Core.List.{List, [], ◌∷◌}
use Prim.Native.Nat.{ℕ, zero, suc, ◌+◌, ◌-◌, ◌≤◌, ◌<◌}
use native.Mathlib.Decide.{ℕ_discrete}
use native.Mathlib.Omega.{arith}
use lib.Dec.{eqb}
use lib.ListN.{length, get_or, take, drop}
use borrow.Author.Tests.{ne_eqb, not-false}
use Rattle.table.specs.Sums.{nth}
use Rattle.table.proofs.Searches.{none_at}
use Rattle.plan.specs.declared.value.Plan.{Plan}
use Rattle.regulator.specs.Verdict.{passes}
use Rattle.regulator.specs.Turn.{after, granted}
use Rattle.regulator.specs.Refusals.{unplanned, slot_refusal}
use Rattle.regulator.specs.declared.state.State.{State}
use Rattle.regulator.proofs.Laws.Adding.{adds}
use Rattle.regulator.proofs.Laws.Asking.{away, reached}
use Rattle.regulator.proofs.Laws.Ruling.{passing_offers, some_granted, verdict_number, two_told}
use Rattle.regulator.proofs.Laws.Refusing.{slot_taken}
use Rattle.share.specs.Share.{Every, Some}
use Rattle.wait.specs.Wait.{Decision, domain_count, IsGranted, Passes, Under, WaitBound}
use Rattle.wait.proofs.Laws.Ahead.{ahead, ahead_member, Nearer, here, nearer, nears}
use Rattle.wait.proofs.Laws.Counting.{may_offer, all_counted}
use Rattle.wait.proofs.Laws.Turning.{Turns, Slots, slots_later, slots_of, slots_of_lem}

-- a number that passes may offer
must_plan : (a b : Bool) → (not a && not b) ≡ false → a ≡ false → b ≡ true
must_plan a b e q = not-false b (sym (ap (λ (c : Bool). not c && not b) q) ∙ e)

passing_may : (s : State) (o : List ℕ) (room : ℕ) → slot_refusal s o room ≡ 0 → (n : ℕ) → n ≤ 16 → passes s o n ≡ true → may_offer s.plan n ≡ true
unfolding may_offer
passing_may s o room e n h q = go (ℕ_discrete n 0)
  where
    go : Dec (n ≡ 0) → may_offer s.plan n ≡ true
    go (yes z) = rw z refl
    go (no z) =
        let m : n - 1 + 1 ≡ n = omega arith in
        let u = none_at (unplanned s.plan o) 16 (n - 1) (slot_taken s o room e).offered.planned (omega arith) in
        let a = ne_eqb (nth o (n - 1 + 1)) 0 (λ w. passing_offers s o n q (sym (ap (nth o) m) ∙ w)) in
        ap (λ (b : Bool). b || get_or s.plan.planned (n - 1) false) (ne_eqb n 0 z)
        ∙ must_plan (eqb (nth o (n - 1 + 1)) 0) (get_or s.plan.planned (n - 1) false) u a

-- number m, under plan p
module _ (p : Plan) (m : ℕ) where
  -- m is some steps behind the turn, and at most n of the numbers ahead of it may offer
  record Steps (turn n : ℕ) : Type 0 where
    pub steps : ℕ
    pub few : steps < 17
    pub reaches : away turn steps ≡ m
    pub fits : ahead (may_offer p) turn steps ≤ n

  -- a slot in which m passes and is not granted
  module _ (t u : ℕ) (d : Decision) (x : Turns t u d) (under : Under p d) (v : nth d.verdicts m ≡ 2) where
    abbrev given : State
    given = x.state

    abbrev offered : List ℕ
    offered = x.offers

    two : (m ≢ granted given offered) × (passes given offered m ≡ true)
    two = two_told given offered m (sym (ap (λ (l : List ℕ). nth l m) x.verdicts) ∙ v)

    turn_most : given.turn ≤ 16
    turn_most = (adds given (slot_taken given offered x.room x.taken).adds).balanced.turn

    number_most : m ≤ 16
    number_most = verdict_number given offered m (λ z. omega (arith, v, ap (λ (l : List ℕ). nth l m) x.verdicts))

    may : (n : ℕ) → n ≤ 16 → passes given offered n ≡ true → may_offer p n ≡ true
    may n h q = subst (λ (r : Plan). may_offer r n ≡ true) (sym x.plan ∙ under) (passing_may given offered x.room x.taken n h q)

    -- no more than the planned domains are ahead of it
    steps_first : Steps t (domain_count p)
    steps_first =
        let r = reached given.turn m turn_most number_most in
        let b = ahead_member (may_offer p) r.0 17 given.turn r.1 (ap (may_offer p) r.2 ∙ may m number_most two.1) in
        rw (sym x.before) (record { steps = r.0; few = r.1; reaches = r.2; fits = omega (arith, b, all_counted p given.turn turn_most) })

    -- and when the next slot is decided, one fewer is
    steps_on : (n : ℕ) → Steps t n → (0 < n) × Steps u (n - 1)
    unfolding granted
    steps_on n w =
        go (nears (may_offer p) (passes given offered) may w.steps given.turn 17 turn_most w.few (ap (passes given offered) reaches ∙ two.1))
      where
        reaches : away given.turn w.steps ≡ m
        reaches = ap (λ (i : ℕ). away i w.steps) x.before ∙ w.reaches

        go : Nearer (may_offer p) given.turn w.steps (granted given offered) → (0 < n) × Steps u (n - 1)
        go (here a) = absurd (two.0 (sym (a ∙ reaches)))
        go (nearer j l a b) =
            let f : ahead (may_offer p) given.turn w.steps ≤ n = rw x.before w.fits in
            let q : u ≡ after (granted given offered) = x.after (some_granted given offered turn_most m number_most two.1) in
            (omega arith, rw q (record { steps = j; few = omega (arith, w.few); reaches = a ∙ reaches; fits = omega arith }))

  -- if m passes in the next k slots, it is granted in one of them
  abbrev Within : ℕ → List Decision → Type 0
  Within k ds = length (take k ds) ≡ k → Every (Passes m) (take k ds) → Every (Under p) (take k ds) → Some (IsGranted m) (take k ds)

  -- so it is where k is above the numbers ahead of it
  waits : (ds : List Decision) (t n k : ℕ) → Slots t ds → Steps t n → n < k → Within k ds
  waits ds t n zero r w h l a b = absurd (omega arith)
  waits [] t n (suc k) r w h l a b = absurd (omega (arith, l))
  waits (d ∷ ds) t n (suc k) r w h l a b = go a.0 (λ y z. waits ds r.0 (n - 1) k r.2 y z (omega (arith, l)) a.1 b.1)
    where
      go : Passes m d → (Steps r.0 (n - 1) → n - 1 < k → Some (IsGranted m) (take k ds)) → Some (IsGranted m) (take (suc k) (d ∷ ds))
      go (inl g) rest = inl g
      go (inr v) rest = let y = steps_on t r.0 d r.1 b.0 v n w in inr (rest y.1 (omega (arith, y.0)))

  -- and where k is above the planned domains
  pub within : (ds : List Decision) (t k : ℕ) → Slots t ds → domain_count p < k → Within k ds
  within ds t zero r h l a b = absurd (omega arith)
  within [] t (suc k) r h l a b = absurd (omega (arith, l))
  within (d ∷ ds) t (suc k) r h l a b = go a.0
    where
      go : Passes m d → Some (IsGranted m) (take (suc k) (d ∷ ds))
      go (inl g) = inl g
      go (inr v) = waits (d ∷ ds) t (domain_count p) (suc k) r (steps_first t r.0 d r.1 b.0 v) h l a b

pub wait_bound : WaitBound
wait_bound s cs p number first =
    let r = slots_later first s.turn (slots_of s cs) (slots_of_lem cs s) in
    within p number (drop first (slots_of s cs)) r.0 _ r.1 (omega arith)
