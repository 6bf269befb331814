-- Passing numbers as a mask, and the number that is granted by it (document 02, Point 12).
-- Assumes nothing.
use Rattle.std.specs.Prelude.{ℕ, zero, suc, ◌+◌, ◌-◌, ◌^◌, List, Bool, cond, eqb}
use Rattle.table.specs.Ranges.{lowest_from, lowest}
use Rattle.bits.specs.Bits.{bit}
use Rattle.regulator.specs.Verdict.{passes}
use Rattle.regulator.specs.declared.state.State.{State}

-- the numbers below a bound of which a test holds, as a mask: bit n is number n
unfoldable pub mask_below : (ℕ → Bool) → ℕ → ℕ
mask_below test zero = 0
mask_below test (suc n) = mask_below test n + cond (test n) (2 ^ n) 0

-- "holds passing numbers as a 17-bit mask"
abbrev pub passing_mask : State → List ℕ → ℕ
passing_mask s offers = mask_below (passes s offers) 17

-- "the lowest set bit at or after the turn" of a mask of seventeen bits, or 17 where there is none
abbrev pub at_or_after : (mask turn : ℕ) → ℕ
at_or_after mask turn = lowest_from (bit mask) turn (17 - turn)

-- "or else the lowest of all"; 17 where the mask is 0
unfoldable pub lowest_bit : (mask turn : ℕ) → ℕ
lowest_bit mask turn = cond (eqb (at_or_after mask turn) 17) (lowest (bit mask) 17) (at_or_after mask turn)
