-- Laws of the masks against the rulings of a state, for every number: who waits on claim, blocked, who passes, who is granted.
-- Assumes nothing.
use mathlib.Core.Path.{◌≡◌, refl, sym, ap, ap₂, ◌∙◌}
use mathlib.Core.Logic.{◌≢◌}
use mathlib.Core.Bool.{Bool, true, false, cond, not, ◌&&◌, ◌||◌, false≢true}
use mathlib.Core.List.{List}
use Prim.Native.Nat.{ℕ, zero, suc, ◌+◌, ◌-◌, ◌<◌, ◌≤◌}
use native.Mathlib.Omega.{arith}
use native.Mathlib.Numerals.{add-one}
use native.Mathlib.Decide.{dec_le, dec_lt}
use lib.Dec.{ltb, eqb, leb}
use lib.ListN.{length, get_or-eq_default}
use borrow.Author.Tests.{ne_eqb, eqb-true, eqb-false, ltb-true, ltb-false, le-leb, lt-leb}
use Rattle.table.specs.Sums.{nth}
use Rattle.table.specs.Ranges.{some_below}
use Rattle.table.proofs.Searches.{some_all, none_at}
use Rattle.bits.specs.Bits.{bit}
use Rattle.bits.proofs.Laws.{bit_zero, bits_none}
use Rattle.regulator.specs.declared.state.State.{State}
use Rattle.regulator.specs.Verdict.{at_cap, waits, waiting, claims, blocked, ruling, ruling_at, passes}
use Rattle.regulator.specs.Turn.{granted, steps_of, distance}
use Rattle.regulator.specs.Refusals.{above_two}
use Rattle.regulator.proofs.Laws.Adding.{Balanced, below_cap}
use Rattle.regulator.proofs.Laws.Refusing.{SlotTaken}
use Rattle.regulator.proofs.Laws.Asking.{ask_same}
use Rattle.regulator.proofs.Laws.Ruling.{ruling_best, ruling_domain, steps_distance}
use Rattle.regulator.proofs.Laws.Loose.{loose_test}
use Rattle.engine.specs.Masks.{lowest_bit}
use Rattle.engine.specs.Inner.{Given, Marked, wait_at, free_at, pass_at}
use Rattle.engine.proofs.Laws.Lowest.{lowest_asked}

-- ---- one number, of what it offers

-- a domain: with writeback claim it is below its cap
domain_line : (x : ℕ) → x ≤ 2 → (has back full empty capped blocked : Bool) → (back ≡ true → capped ≡ false)
    → pass_at (wait_at (eqb x 1) (eqb x 2) has back) (free_at false (eqb x 1) (eqb x 2) (not full) (not capped) (not empty)) blocked
    ≡ eqb (ruling (eqb x 0) (eqb x 2 && capped) (cond (eqb x 2) back has) (not (eqb x 2) && full) (not (eqb x 2) && empty) blocked) 2
unfolding ruling
domain_line zero h c k f e t true i = refl
domain_line zero h c k f e t false i = refl
domain_line (suc zero) h true k f e t b i = refl
domain_line (suc zero) h false k true e t true i = refl
domain_line (suc zero) h false k true e t false i = refl
domain_line (suc zero) h false k false true t true i = refl
domain_line (suc zero) h false k false true t false i = refl
domain_line (suc zero) h false k false false t true i = refl
domain_line (suc zero) h false k false false t false i = refl
domain_line (suc (suc zero)) h c true f e true b i = absurd (false≢true (sym (i refl)))
domain_line (suc (suc zero)) h c true f e false b i = refl
domain_line (suc (suc zero)) h c false f e true true i = refl
domain_line (suc (suc zero)) h c false f e true false i = refl
domain_line (suc (suc zero)) h c false f e false true i = refl
domain_line (suc (suc zero)) h c false f e false false i = refl
domain_line (suc (suc (suc x))) h c k f e t b i = absurd (omega arith)

best_line : (x : ℕ) → x ≤ 2 → (may stock blocked : Bool)
    → pass_at (wait_at (eqb x 1) (eqb x 2) false false) (free_at true (eqb x 1) (eqb x 2) may true stock) blocked
    ≡ eqb (ruling (eqb x 0) false false false false blocked) 2
unfolding ruling
best_line zero h m s true = refl
best_line zero h m s false = refl
best_line (suc zero) h m s true = refl
best_line (suc zero) h m s false = refl
best_line (suc (suc zero)) h m s true = refl
best_line (suc (suc zero)) h m s false = refl
best_line (suc (suc (suc x))) h m s b = absurd (omega arith)

wait_line : (x : ℕ) → x ≤ 2 → (has back : Bool) → wait_at (eqb x 1) (eqb x 2) has back ≡ (not (eqb x 0) && cond (eqb x 2) back has)
wait_line zero h c k = refl
wait_line (suc zero) h true k = refl
wait_line (suc zero) h false k = refl
wait_line (suc (suc zero)) h c k = refl
wait_line (suc (suc (suc x))) h c k = absurd (omega arith)

-- a test under cond
under : (b : Bool) (x y : ℕ) → ltb 0 (cond b x y) ≡ cond b (ltb 0 x) (ltb 0 y)
under true x y = refl
under false x y = refl

-- loose is at most 0 where T and the claims reach P
tight_line : (P T c : ℕ) → leb (P - T) c ≡ leb P (T + c)
tight_line P T c = go (dec_le P (T + c))
  where
    go : Dec (P ≤ T + c) → leb (P - T) c ≡ leb P (T + c)
    go (yes l) = le-leb (P - T) c (omega arith) ∙ sym (le-leb P (T + c) l)
    go (no l) = lt-leb (P - T) c (omega arith) ∙ sym (lt-leb P (T + c) (omega arith))

-- ---- all numbers of a state

module _ (s : State) (o : List ℕ) (access writeback has back may room : ℕ) (given : Given o access writeback)
    (marked : Marked s.claim s.writebackclaim s.reclaimed s.writebacks s.plan.reclaimcap s.plan.writebackcap has back may room)
    (below : (k : ℕ) → 0 < nth s.writebackclaim k → nth s.writebacks k ≢ nth s.plan.writebackcap k)
    (wait : ℕ) (waits-at : (n : ℕ) → bit wait n ≡ wait_at (bit access n) (bit writeback n) (bit has n) (bit back n)) where
  wait_bit : (k : ℕ) → bit wait (k + 1) ≡ waiting s o k
  unfolding waiting waits
  wait_bit k =
      waits-at (k + 1)
      ∙ rw (given.access_at (k + 1), given.writeback_at (k + 1), marked.has_at k, marked.back_at k)
      (wait_line (nth o (k + 1)) (given.known (k + 1)) (ltb 0 (nth s.claim k)) (ltb 0 (nth s.writebackclaim k)))
      ∙ ap (λ (b : Bool). not (eqb (nth o (k + 1)) 0) && b) (sym (under (eqb (nth o (k + 1)) 2) (nth s.writebackclaim k) (nth s.claim k)))

  wait_best : bit wait 0 ≡ false
  wait_best = waits-at 0 ∙ rw (marked.has_best, marked.back_best) (go (bit access 0) (bit writeback 0))
    where
      go : (a w : Bool) → ((a && false) || (w && false)) ≡ false
      go true true = refl
      go true false = refl
      go false true = refl
      go false false = refl

  -- some domain waits on claim where the mask is not 0
  some_waits : wait < 131072 → some_below (waiting s o) 16 ≡ not (eqb wait 0)
  some_waits fits = go (eqb wait 0) refl (some_below (waiting s o) 16) refl
    where
      go : (z : Bool) → eqb wait 0 ≡ z → (u : Bool) → some_below (waiting s o) 16 ≡ u → some_below (waiting s o) 16 ≡ not (eqb wait 0)
      go true e u q =
          let z : wait ≡ 0 = eqb-true wait 0 e in
          rw e (some_all (waiting s o) 16 (λ k l. sym (wait_bit k) ∙ ap (λ (y : ℕ). bit y (k + 1)) z ∙ bit_zero (k + 1)))
      go false e true q = rw (e, q)
      go false e false q = absurd (eqb-false wait 0 e (bits_none 17 wait fits each))
        where
          each : (n : ℕ) → n < 17 → bit wait n ≡ false
          each zero h = wait_best
          each (suc k) h = rw (← add-one k) (wait_bit k ∙ none_at (waiting s o) 16 k q (omega arith))

  pub blocked_is : wait < 131072 → s.decided ≤ s.plan.period → (leb s.plan.period (s.decided + claims s) && not (eqb wait 0)) ≡ blocked s o
  unfolding blocked
  blocked_is fits h =
      sym (ap₂ ◌&&◌ (loose_test s h ∙ tight_line s.plan.period s.decided (claims s)) (some_waits fits))

  -- bit n of the mask is 'n passes'
  pub passing_is : (m : ℕ) (b : Bool) → b ≡ blocked s o
      → ((n : ℕ) → bit m n ≡ pass_at (bit wait n) (free_at (eqb n 0) (bit access n) (bit writeback n) (bit may n) (bit room n) (not (eqb s.stock 0))) b)
      → (n : ℕ) → bit m n ≡ passes s o n
  unfolding ruling_at at_cap
  passing_is m b e pass zero =
      pass 0
      ∙ rw (waits-at 0, given.access_at 0, given.writeback_at 0, marked.has_best, marked.back_best, marked.room_best, e)
      (best_line (nth o 0) (given.known 0) (bit may 0) (not (eqb s.stock 0)) (blocked s o))
      ∙ ap (λ (v : ℕ). eqb v 2) (sym (ruling_best s o))
  passing_is m b e pass (suc k) =
      rw (← add-one k)
      (pass (k + 1)
      ∙ rw (waits-at (k + 1), given.access_at (k + 1), given.writeback_at (k + 1), marked.has_at k, marked.back_at k, marked.may_at k, marked.room_at k, e, ne_eqb (k + 1) 0 (λ q. omega arith))
      (domain_line (nth o (k + 1)) (given.known (k + 1)) (ltb 0 (nth s.claim k)) (ltb 0 (nth s.writebackclaim k))
      (eqb (nth s.reclaimed k) (nth s.plan.reclaimcap k)) (eqb s.stock 0) (eqb (nth s.writebacks k) (nth s.plan.writebackcap k)) (blocked s o)
      (λ q. ne_eqb _ _ (below k (ltb-true 0 _ q))))
      ∙ same
      ∙ ap (λ (v : ℕ). eqb v 2) (sym (ruling_domain s o k)))
    where
      same : eqb (ruling (eqb (nth o (k + 1)) 0) (eqb (nth o (k + 1)) 2 && eqb (nth s.writebacks k) (nth s.plan.writebackcap k))
          (cond (eqb (nth o (k + 1)) 2) (ltb 0 (nth s.writebackclaim k)) (ltb 0 (nth s.claim k)))
          (not (eqb (nth o (k + 1)) 2) && eqb (nth s.reclaimed k) (nth s.plan.reclaimcap k)) (not (eqb (nth o (k + 1)) 2) && eqb s.stock 0) (blocked s o)) 2
          ≡ eqb (ruling_at s o k) 2
      same = rw (under (eqb (nth o (k + 1)) 2) (nth s.writebackclaim k) (nth s.claim k))

-- a mask of the numbers that pass grants the number that the definitions grant, with its steps
pub picked_is : (s : State) (o : List ℕ) (m : ℕ) → ((n : ℕ) → n ≤ 16 → bit m n ≡ passes s o n) → s.turn ≤ 16
    → (lowest_bit m s.turn ≡ granted s o) × (distance s.turn (lowest_bit m s.turn) ≡ steps_of s o)
unfolding granted
picked_is s o m pass h =
    let e : lowest_bit m s.turn ≡ granted s o = lowest_asked m s.turn h ∙ ask_same (bit m) (passes s o) pass s.turn 17 h in
    (e, ap (distance s.turn) e ∙ sym (steps_distance s o h))

-- ---- a slot that is not refused

-- past the ends of the lists there are neither offers nor claims
module _ (s : State) (o : List ℕ) (taken : SlotTaken s o 17) where
  known : (n : ℕ) → nth o n ≤ 2
  known n = go (dec_lt n 17)
    where
      go : Dec (n < 17) → nth o n ≤ 2
      go (yes h) = ltb-false 2 (nth o n) (none_at (above_two o) 17 n taken.offered.kinds h)
      go (no h) = omega (arith, get_or-eq_default o 0 {n = n} (omega (arith, taken.offered.offers_long)))

  pub given_of : (access writeback : ℕ) → ((n : ℕ) → bit access n ≡ eqb (nth o n) 1) → ((n : ℕ) → bit writeback n ≡ eqb (nth o n) 2) → Given o access writeback
  given_of access writeback a w = record { access_at = a; writeback_at = w; known = known }

-- in a state that adds up a domain with writeback claim is below its cap
pub below_caps : (s : State) → Balanced s → length s.writebackclaim ≡ 16
    → (k : ℕ) → 0 < nth s.writebackclaim k → nth s.writebacks k ≢ nth s.plan.writebackcap k
below_caps s b l k h = go (dec_lt k 16)
  where
    go : Dec (k < 16) → nth s.writebacks k ≢ nth s.plan.writebackcap k
    go (yes q) = below_cap s b k q h
    go (no q) = absurd (omega (arith, h, get_or-eq_default s.writebackclaim 0 {n = k} (omega (arith, l))))
