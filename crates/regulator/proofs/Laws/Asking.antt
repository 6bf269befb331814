-- Laws of the turn: the number after one, one number asked, and what the answer tells.
-- Assumes nothing.
use mathlib.Core.Path.{◌≡◌, refl, sym, ap, ap₂, ◌∙◌}
use mathlib.Core.Logic.{◌≢◌, ◌⊎◌, inl, inr}
use mathlib.Core.Bool.{Bool, true, false, cond}
use Prim.Native.Nat.{ℕ, zero, suc, ◌+◌, ◌-◌, ◌%◌, ◌≤◌, ◌<◌}
use native.Mathlib.Numerals.{add-one, sub-one}
use native.Mathlib.Decide.{ℕ_discrete}
use native.Mathlib.Omega.{arith}
use lib.Dec.{eqb}
use borrow.Author.Tests.{eq-eqb, ne_eqb}
use Rattle.table.proofs.Tables.{miss, hit}
use Rattle.regulator.specs.Turn.{after, ask, passed_by, distance}

-- the numbers go round
pub after_is : (n : ℕ) → n ≤ 16 → after n ≡ (n + 1) % 17
unfolding after
after_is n h = go (ℕ_discrete n 16)
  where
    go : Dec (n ≡ 16) → cond (eqb n 16) 0 (n + 1) ≡ (n + 1) % 17
    go (yes e) = hit _ _ _ (eq-eqb n 16 e) ∙ omega arith
    go (no e) = miss _ _ _ (ne_eqb n 16 e) ∙ omega arith

pub after_most : (n : ℕ) → n ≤ 16 → after n ≤ 16
after_most n h = omega (arith, after_is n h)

module _ (test : ℕ → Bool) where
  -- no number left, this number, and the numbers after it
  pub ask_none : (n left : ℕ) → left ≡ 0 → ask test n left ≡ 17
  unfolding ask
  ask_none n zero e = refl
  ask_none n (suc left) e = absurd (omega arith)

  pub ask_here : (n left : ℕ) → left ≢ 0 → test n ≡ true → ask test n left ≡ n
  unfolding ask
  ask_here n zero h e = absurd (h refl)
  ask_here n (suc left) h e = hit _ _ _ e

  pub ask_on : (n left : ℕ) → left ≢ 0 → test n ≡ false → ask test n left ≡ ask test (after n) (left - 1)
  unfolding ask
  ask_on n zero h e = absurd (h refl)
  ask_on n (suc left) h e = rw (e, sub-one)

  -- the answer is 17, or a number that passes
  abbrev Told : ℕ → Type 0
  Told a = (a ≡ 17) ⊎ ((a ≤ 16) × (test a ≡ true))

  pub ask_passes : (n left : ℕ) → n ≤ 16 → (ask test n left ≡ 17) ⊎ ((ask test n left ≤ 16) × (test (ask test n left) ≡ true))
  unfolding ask
  ask_passes n zero h = inl refl
  ask_passes n (suc left) h = go (test n) refl (ask_passes (after n) left (after_most n h))
    where
      go : (b : Bool) → test n ≡ b → Told (ask test (after n) left) → Told (cond b n (ask test (after n) left))
      go true e r = inr (h, e)
      go false e r = r

  pub ask_most : (n left : ℕ) → n ≤ 16 → ask test n left ≤ 17
  ask_most n left h = go (ask_passes n left h)
    where
      go : Told (ask test n left) → ask test n left ≤ 17
      go (inl e) = omega arith
      go (inr r) = omega arith

-- the number that is asked k steps after n
unfoldable pub away : ℕ → ℕ → ℕ
away n zero = n
away n (suc k) = away (after n) k

pub away_is : (k n : ℕ) → n ≤ 16 → away n k ≡ (n + k) % 17
unfolding away
away_is zero n h = omega arith
away_is (suc k) n h = away_is k (after n) (after_most n h) ∙ omega (arith, after_is n h)

-- every number is asked
pub reached : (n m : ℕ) → n ≤ 16 → m ≤ 16 → (k : ℕ) × (k < 17) × (away n k ≡ m)
reached n m hn hm = ((m + 17 - n) % 17, omega arith, away_is ((m + 17 - n) % 17) n hn ∙ omega arith)

module _ (test : ℕ → Bool) where
  -- where the answer is 17, no number asked passes
  first_not : (b : Bool) (n r : ℕ) → n ≤ 16 → cond b n r ≡ 17 → (b ≡ false) × (r ≡ 17)
  first_not true n r h e = absurd (omega arith)
  first_not false n r h e = (refl, e)

  none_asked : (left n : ℕ) → n ≤ 16 → ask test n left ≡ 17 → (k : ℕ) → k < left → test (away n k) ≡ false
  unfolding ask away
  none_asked zero n h e k l = absurd (omega arith)
  none_asked (suc left) n h e zero l = (first_not (test n) n (ask test (after n) left) h e).0
  none_asked (suc left) n h e (suc k) l =
      none_asked left (after n) (after_most n h) (first_not (test n) n (ask test (after n) left) h e).1 k (omega arith)

  pub none_passes : (n : ℕ) → n ≤ 16 → ask test n 17 ≡ 17 → (m : ℕ) → m ≤ 16 → test m ≡ false
  none_passes n h e m hm = let r = reached n m h hm in rw r.2 at (none_asked 17 n h e r.0 r.1)

  -- where none passes all are passed by, and else the answer is so many steps after n
  abbrev Steps : (n left a k : ℕ) → Type 0
  Steps n left a k = ((a ≡ 17) × (k ≡ left)) ⊎ ((k < left) × (a ≡ away n k))

  stepped_to : (left n : ℕ) → Steps n left (ask test n left) (passed_by test n left)
  unfolding ask passed_by away
  stepped_to zero n = inl (refl, refl)
  stepped_to (suc left) n = go (test n) (stepped_to left (after n))
    where
      more : (a k : ℕ) → Steps (after n) left a k → Steps n (suc left) a (k + 1)
      more a k (inl r) = inl (r.0, omega (arith, r.1))
      more a k (inr r) = inr (omega (arith, r.0), r.1 ∙ ap (away n) (sym (add-one k)))

      go : (b : Bool) → Steps (after n) left (ask test (after n) left) (passed_by test (after n) left)
          → Steps n (suc left) (cond b n (ask test (after n) left)) (cond b 0 (passed_by test (after n) left + 1))
      go true r = inr (omega arith, refl)
      go false r = more _ _ r

  -- the steps are how far the answer is from n
  pub passed_distance : (n : ℕ) → n ≤ 16 → passed_by test n 17 ≡ distance n (ask test n 17)
  passed_distance n h = go _ _ (stepped_to 17 n)
    where
      go : (a k : ℕ) → Steps n 17 a k → k ≡ distance n a
      go a k (inl r) = r.1 ∙ sym (hit _ _ _ (eq-eqb a 17 r.0))
      go a k (inr r) =
          let e : a ≡ (n + k) % 17 = r.1 ∙ away_is k n h in
          sym (miss _ _ _ (ne_eqb a 17 (λ z. omega arith)) ∙ omega (arith, r.0))

-- two tests that agree on every number give the same answer
pub ask_same : (f g : ℕ → Bool) → ((n : ℕ) → n ≤ 16 → f n ≡ g n) → (n left : ℕ) → n ≤ 16 → ask f n left ≡ ask g n left
unfolding ask
ask_same f g same n zero h = refl
ask_same f g same n (suc left) h =
    ap₂ (λ (b : Bool) (r : ℕ). cond b n r) (same n h) (ask_same f g same (after n) left (after_most n h))
