-- Laws of the bits of `&`, `|` and `^`, which work on each bit by itself.
-- Assumes nothing.
use mathlib.Core.Path.{◌≡◌, refl, ap, ◌∙◌}
use mathlib.Core.Bool.{Bool, true, false, cond, not, ◌&&◌, ◌||◌}
use Prim.Native.Nat.{ℕ, zero, suc, ◌+◌, ◌*◌, ◌/◌, ◌%◌, ◌<◌, min, max}
use native.Mathlib.Omega.{arith}
use lib.Arith.{digits_div, digits_mod}
use lib.Dec.{eqb}
use lib.Bits.{bit_and, bit_or, bit_xor, differ, and_step, or_step, xor_step}
use Rattle.bits.specs.Bits.{bit}

-- an operation that makes each digit from the two digits there: its bits are made from the two bits there
module _ (op f : ℕ → ℕ → ℕ) (g : Bool → Bool → Bool)
    (step : (a b : ℕ) → op a b ≡ op (a / 2) (b / 2) * 2 + f (a % 2) (b % 2))
    (small : (x y : ℕ) → x < 2 → y < 2 → f x y < 2)
    (same : (x y : ℕ) → x < 2 → y < 2 → eqb (f x y) 1 ≡ g (eqb x 1) (eqb y 1)) where
  one_digit : (a b : ℕ) → f (a % 2) (b % 2) < 2
  one_digit a b = small (a % 2) (b % 2) (omega arith) (omega arith)

  pub bit_op : (a b n : ℕ) → bit (op a b) n ≡ g (bit a n) (bit b n)
  unfolding bit
  bit_op a b zero =
      ap (λ (x : ℕ). eqb (x % 2) 1) (step a b)
      ∙ ap (λ (x : ℕ). eqb x 1) (digits_mod (op (a / 2) (b / 2)) (one_digit a b))
      ∙ same (a % 2) (b % 2) (omega arith) (omega arith)
  bit_op a b (suc n) =
      ap (λ (x : ℕ). bit (x / 2) n) (step a b)
      ∙ ap (λ (x : ℕ). bit x n) (digits_div (op (a / 2) (b / 2)) (one_digit a b))
      ∙ bit_op (a / 2) (b / 2) n

-- what holds of two digits is one of four cases
module _ (P : ℕ → ℕ → Type 0) (p00 : P 0 0) (p01 : P 0 1) (p10 : P 1 0) (p11 : P 1 1) where
  pub four : (x y : ℕ) → x < 2 → y < 2 → P x y
  four zero zero h k = p00
  four zero (suc zero) h k = p01
  four zero (suc (suc y)) h k = absurd (omega arith)
  four (suc zero) zero h k = p10
  four (suc zero) (suc zero) h k = p11
  four (suc zero) (suc (suc y)) h k = absurd (omega arith)
  four (suc (suc x)) y h k = absurd (omega arith)

pub bit_and_lem : (a b n : ℕ) → bit (bit_and a b) n ≡ (bit a n && bit b n)
bit_and_lem =
    bit_op bit_and min (λ p q. p && q) and_step
    (four (λ x y. min x y < 2) (omega arith) (omega arith) (omega arith) (omega arith))
    (four (λ x y. eqb (min x y) 1 ≡ (eqb x 1 && eqb y 1)) refl refl refl refl)

pub bit_or_lem : (a b n : ℕ) → bit (bit_or a b) n ≡ (bit a n || bit b n)
bit_or_lem =
    bit_op bit_or max (λ p q. p || q) or_step
    (four (λ x y. max x y < 2) (omega arith) (omega arith) (omega arith) (omega arith))
    (four (λ x y. eqb (max x y) 1 ≡ (eqb x 1 || eqb y 1)) refl refl refl refl)

pub bit_xor_lem : (a b n : ℕ) → bit (bit_xor a b) n ≡ cond (bit a n) (not (bit b n)) (bit b n)
bit_xor_lem =
    bit_op bit_xor differ (λ p q. cond p (not q) q) xor_step
    (four (λ x y. differ x y < 2) (omega arith) (omega arith) (omega arith) (omega arith))
    (four (λ x y. eqb (differ x y) 1 ≡ cond (eqb x 1) (not (eqb y 1)) (eqb y 1)) refl refl refl refl)

-- what a has and b lacks, as `a & (a ^ b)` makes it
pub bit_less : (a b n : ℕ) → bit (bit_and a (bit_xor a b)) n ≡ (bit a n && not (bit b n))
bit_less a b n = bit_and_lem a (bit_xor a b) n ∙ ap (λ (x : Bool). bit a n && x) (bit_xor_lem a b n) ∙ go (bit a n) (bit b n)
  where
    go : (p q : Bool) → (p && cond p (not q) q) ≡ (p && not q)
    go true q = refl
    go false q = refl
