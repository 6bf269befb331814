-- Laws of the leaves of a grant: one bit as a number, and one bit of a mask set anew.
-- Assumes nothing.
use mathlib.Core.Path.{◌≡◌, refl, sym, ap, ◌∙◌}
use mathlib.Core.Bool.{Bool, true, false, cond, not, ◌&&◌, ◌||◌}
use Prim.Native.Nat.{ℕ, zero, suc, ◌/◌, ◌^◌, ◌≤◌}
use native.Mathlib.Omega.{arith}
use lib.Dec.{eqb}
use lib.Bits.{bit_and, and_mask}
use Rattle.bits.specs.Bits.{bit}
use Rattle.bits.proofs.Laws.{test_bit}
use Rattle.kept.specs.Grant.{one}

-- `mask >> n & 1`
pub digit_most : (m n : ℕ) → bit_and (m / 2 ^ n) 1 ≤ 1
digit_most m n = omega (arith, and_mask (m / 2 ^ n) 1)

pub digit_is : (m n : ℕ) → bit_and (m / 2 ^ n) 1 ≡ one (bit m n)
digit_is m n = small (bit_and (m / 2 ^ n) 1) (digit_most m n) ∙ ap one (test_bit m n)
  where
    small : (x : ℕ) → x ≤ 1 → x ≡ one (eqb x 1)
    small zero h = refl
    small (suc zero) h = refl
    small (suc (suc x)) h = absurd (omega arith)

-- A bit m joined with the one bit, freed of it, and left: it is as `on` says where i says that it is the one.
pub set_bit : (m i on : Bool) → on ≡ true → (m || i) ≡ cond (i && true) on m
set_bit true true on e = sym e
set_bit true false on e = refl
set_bit false true on e = sym e
set_bit false false on e = refl

pub clear_bit : (m i on : Bool) → on ≡ false → (m && not i) ≡ cond (i && true) on m
clear_bit true true on e = sym e
clear_bit true false on e = refl
clear_bit false true on e = sym e
clear_bit false false on e = refl

pub same_bit : (m i on : Bool) → m ≡ cond (i && false) on m
same_bit m true on = refl
same_bit m false on = refl
