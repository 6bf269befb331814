-- Laws of the bits of 0, of a power of two, of what is shifted, of what is below a power of two, and of two numbers side by side.
-- Assumes nothing.
use mathlib.Core.Path.{◌≡◌, refl, sym, ap, ◌∙◌}
use mathlib.Core.Bool.{Bool, false, ◌||◌}
use Prim.Native.Nat.{ℕ, zero, suc, ◌+◌, ◌-◌, ◌*◌, ◌/◌, ◌%◌, ◌^◌, ◌<◌, ◌≤◌}
use native.Mathlib.Nat.{add_comm, pow-suc, one-mul, div-mul-le_self}
use native.Mathlib.Omega.{arith}
use lib.Pow.{high, shr-shr, shl_exact}
use lib.Dec.{eqb, eqb-suc-suc, eqb-zero-suc, eqb-suc-zero}
use lib.Bits.{bit_and, and_mask, or_shifted, shifted_half, shifted_even}
use borrow.Author.Tests.{eqb-false}
use Rattle.bits.specs.Bits.{bit}
use Rattle.bits.proofs.Laws.Operations.{bit_or_lem}

pub bit_zero : (n : ℕ) → bit 0 n ≡ false
unfolding bit
bit_zero zero = refl
bit_zero (suc n) = bit_zero n

pub bit_pow : (k n : ℕ) → bit (2 ^ k) n ≡ eqb n k
unfolding bit
bit_pow zero zero = refl
bit_pow zero (suc n) = bit_zero n ∙ sym (eqb-suc-zero n)
bit_pow (suc k) zero =
    let e : 2 ^ suc k % 2 ≡ 0 = omega (arith, pow-suc 2 k) in
    rw e (sym (eqb-zero-suc k))
bit_pow (suc k) (suc n) =
    let e : 2 ^ suc k / 2 ≡ 2 ^ k = omega (arith, pow-suc 2 k) in
    rw e (bit_pow k n ∙ sym (eqb-suc-suc n k))

-- shifted right by k
pub bit_shr : (m k n : ℕ) → bit (m / 2 ^ k) n ≡ bit m (k + n)
unfolding bit
bit_shr m zero n =
    let e : m / 1 ≡ m = omega arith in
    let i : 0 + n ≡ n = omega arith in
    rw (e, i)
bit_shr m (suc k) n =
    let e : m / 2 / 2 ^ k ≡ m / 2 ^ suc k = shr-shr m 1 k ∙ ap (λ (x : ℕ). m / 2 ^ x) (omega arith) in
    let i : suc k + n ≡ suc (k + n) = omega arith in
    rw (← e, i) (bit_shr (m / 2) k n)

-- shifted left by k: no bit below k, and the bits of before from there on
pub bit_shl_low : (x k n : ℕ) → n < k → bit (x * 2 ^ k) n ≡ false
unfolding bit
bit_shl_low x zero n h = absurd (omega arith)
bit_shl_low x (suc k) zero h = rw (shifted_even x k)
bit_shl_low x (suc k) (suc n) h = rw (shifted_half x k) (bit_shl_low x k n (omega arith))

pub bit_shl : (x k n : ℕ) → bit (x * 2 ^ k) (k + n) ≡ bit x n
unfolding bit
bit_shl x zero n =
    let e : x * 1 ≡ x = omega arith in
    let i : 0 + n ≡ n = omega arith in
    rw (e, i)
bit_shl x (suc k) n =
    let i : suc k + n ≡ suc (k + n) = omega arith in
    rw i (ap (λ (y : ℕ). bit y (k + n)) (shifted_half x k) ∙ bit_shl x k n)

-- the bits below k cleared, as `m >> k << k` does
pub cleared_low : (m k n : ℕ) → n < k → bit (m / 2 ^ k * 2 ^ k) n ≡ false
cleared_low m k n h = bit_shl_low (m / 2 ^ k) k n h

pub cleared_high : (m k n : ℕ) → k ≤ n → bit (m / 2 ^ k * 2 ^ k) n ≡ bit m n
cleared_high m k n h =
    let e : k + (n - k) ≡ n = omega arith in
    rw (← e) (bit_shl (m / 2 ^ k) k (n - k) ∙ bit_shr m k (n - k))

pub cleared_le : (m k : ℕ) → m / 2 ^ k * 2 ^ k ≤ m
cleared_le m k = div-mul-le_self m (2 ^ k)

-- a number below 2 ^ k has no bit from k on, and is 0 where it has none below k
pub bit_above : (k m n : ℕ) → m < 2 ^ k → k ≤ n → bit m n ≡ false
unfolding bit
bit_above zero m n h l =
    let e : m ≡ 0 = omega arith in
    rw e (bit_zero n)
bit_above (suc k) m zero h l = absurd (omega arith)
bit_above (suc k) m (suc n) h l = bit_above k (m / 2) n (omega (arith, pow-suc 2 k)) (omega arith)

pub bits_none : (k m : ℕ) → m < 2 ^ k → ((n : ℕ) → n < k → bit m n ≡ false) → m ≡ 0
unfolding bit
bits_none zero m h f = omega arith
bits_none (suc k) m h f =
    let e : m % 2 ≡ 1 → ⊥ = eqb-false (m % 2) 1 (f 0 (omega arith)) in
    let r : m / 2 ≡ 0 = bits_none k (m / 2) (omega (arith, pow-suc 2 k)) (λ n p. f (suc n) (omega arith)) in
    omega arith

-- and a number that has no bit from k on is below 2 ^ k
pub bits_small : (k wide m : ℕ) → m < 2 ^ wide → ((n : ℕ) → k ≤ n → bit m n ≡ false) → m < 2 ^ k
unfolding bit
bits_small zero wide m h f = omega (arith, bits_none wide m h (λ n p. f n (omega arith)))
bits_small (suc k) wide m h f = omega (arith, pow-suc 2 k, bits_small k wide (m / 2) (omega arith) (λ n l. f (suc n) (omega arith)))

-- a number below 2 ^ k, and another from bit k on
pub join_low : (lo hi k n : ℕ) → lo < 2 ^ k → n < k → bit (lo + hi * 2 ^ k) n ≡ bit lo n
join_low lo hi k n h l =
    ap (λ (x : ℕ). bit x n) (add_comm lo (hi * 2 ^ k) ∙ sym (or_shifted hi k lo h))
    ∙ bit_or_lem (hi * 2 ^ k) lo n
    ∙ ap (λ (x : Bool). x || bit lo n) (bit_shl_low hi k n l)

pub join_high : (lo hi k n : ℕ) → lo < 2 ^ k → bit (lo + hi * 2 ^ k) (k + n) ≡ bit hi n
join_high lo hi k n h =
    sym (bit_shr (lo + hi * 2 ^ k) k n)
    ∙ ap (λ (x : ℕ). bit (x / 2 ^ k) n) (add_comm lo (hi * 2 ^ k))
    ∙ ap (λ (x : ℕ). bit x n) (high hi k h)

-- `1 << n` loses nothing
pub shl_one : (n : ℕ) → n < 32 → (1 * 2 ^ n) % 4294967296 ≡ 2 ^ n
shl_one n h = shl_exact {a = 1} 1 n 32 (omega arith) (omega arith) ∙ one-mul (2 ^ n)

-- `m >> n & 1 == 1` tests bit n
pub test_bit : (m n : ℕ) → eqb (bit_and (m / 2 ^ n) 1) 1 ≡ bit m n
unfolding bit
test_bit m n =
    let e : n + 0 ≡ n = omega arith in
    ap (λ (x : ℕ). eqb x 1) (and_mask (m / 2 ^ n) 1) ∙ bit_shr m n 0 ∙ ap (bit m) e
