-- What the functions inside the crate promise each other. No contract of a function that other crates call cites this.
-- Assumes nothing.
use Rattle.std.specs.Prelude.{◌≡◌, ◌≢◌, true, false, ◌||◌, List, ℕ, ◌+◌, ◌≤◌, length, get_or}
use Rattle.bits.specs.Bits.{bit}
use Rattle.plan.specs.declared.value.Plan.{Plan}
use Rattle.digits.specs.Lanes.{Offered}
use Rattle.slots.specs.Lines.{Head}
use Rattle.kept.specs.declared.numbers.Numbers.{Numbers}

-- best effort and the planned domains as a mask
pub record Allowed (p : Plan) (mask : ℕ) : Type 0 where
  pub best : bit mask 0 ≡ true
  pub at : (k : ℕ) → bit mask (k + 1) ≡ get_or p.planned k false

-- What makes a slot line plain: it is not in the last period of all, it does not complete its period, and no domain that is not planned
-- makes an offer.
pub record Plain (f : Numbers) (period allowed access writeback : ℕ) : Type 0 where
  pub unfilled : f.closed ≢ 4294967295
  pub more : f.decided + 1 ≢ period
  pub planned : (n : ℕ) → (bit access n || bit writeback n) ≡ true → bit allowed n ≡ true

-- a plain slot line starts at a place, and makes these offers
pub record PlainLine (part : List ℕ) (at : ℕ) (f : Numbers) (period allowed access writeback : ℕ) : Type 0 where
  pub within : at + 20 ≤ length part
  pub head : Head part at
  pub offered : Offered part (at + 2) access writeback
  pub plain : Plain f period allowed access writeback
