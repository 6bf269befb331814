-- Laws of the lowest bit that is set: the place that the zeros below it count.
-- Assumes nothing.
use mathlib.Core.Path.{◌≡◌, refl}
use mathlib.Core.Bool.{true, false}
use mathlib.Core.Logic.{⊎_elim}
use Prim.Native.Nat.{ℕ, zero, suc, ◌/◌, ◌%◌, ◌^◌, ◌<◌}
use native.Mathlib.Nat.{eq-or-lt_of_le}
use native.Mathlib.Omega.{arith}
use lib.Count.{count_trailing_zeros, under, trailing_le}
use borrow.Author.Tests.{eq-eqb, ne_eqb}
use Rattle.bits.specs.Bits.{bit}
use Rattle.bits.proofs.Laws.Shifts.{bits_none}

-- no bit below it is set
pub lowest_below : (k m n : ℕ) → n < count_trailing_zeros k m → bit m n ≡ false
unfolding bit count_trailing_zeros
lowest_below zero m n h = absurd (omega arith)
lowest_below (suc k) m n h = go (m % 2) refl n h (λ j p. lowest_below k (m / 2) j p)
  where
    go : (d : ℕ) → m % 2 ≡ d → (n : ℕ) → n < under d (count_trailing_zeros k (m / 2))
        → ((j : ℕ) → j < count_trailing_zeros k (m / 2) → bit (m / 2) j ≡ false) → bit m n ≡ false
    go zero e zero h r = ne_eqb (m % 2) 1 (λ q. omega arith)
    go zero e (suc n) h r = r n (omega arith)
    go (suc d) e n h r = absurd (omega arith)

-- it is set, where it is among the k lowest
pub lowest_set : (k m : ℕ) → count_trailing_zeros k m < k → bit m (count_trailing_zeros k m) ≡ true
unfolding bit count_trailing_zeros
lowest_set zero m h = absurd (omega arith)
lowest_set (suc k) m h = go (m % 2) refl h (lowest_set k (m / 2))
  where
    go : (d : ℕ) → m % 2 ≡ d → under d (count_trailing_zeros k (m / 2)) < suc k
        → (count_trailing_zeros k (m / 2) < k → bit (m / 2) (count_trailing_zeros k (m / 2)) ≡ true)
        → bit m (under d (count_trailing_zeros k (m / 2))) ≡ true
    go zero e h r = r (omega arith)
    go (suc d) e h r = eq-eqb (m % 2) 1 (omega arith)

-- it is there, where the number is not 0
pub lowest_there : (k m : ℕ) → m < 2 ^ k → (m ≡ 0 → ⊥) → count_trailing_zeros k m < k
lowest_there k m h e = ⊎_elim
    (λ (q : count_trailing_zeros k m ≡ k). absurd (e (bits_none k m h (λ n p. lowest_below k m n (omega arith)))))
    (λ (q : count_trailing_zeros k m < k). q)
    (eq-or-lt_of_le (trailing_le k m))
