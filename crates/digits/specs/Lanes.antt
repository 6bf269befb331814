-- Bytes side by side in one number, and the seventeen digits of a slot line as two masks.
-- Assumes nothing.
use Rattle.std.specs.Prelude.{ℕ, ◌+◌, ◌*◌, ◌^◌, ◌<◌, ◌≤◌, ◌≡◌, List, Bool, false, ◌||◌, eqb, get_or}
use Rattle.bits.specs.Bits.{bit}

-- m is w bytes, lowest first: byte i of it is f i
pub record Lanes (f : ℕ → ℕ) (w m : ℕ) : Type 0 where
  pub bound : m < 2 ^ (8 * w)
  pub lane : (i j : ℕ) → i < w → j < 8 → bit m (8 * i + j) ≡ bit (f i) j

-- the bytes of a list from a place on
abbrev pub from : List ℕ → ℕ → ℕ → ℕ
from b at i = get_or b (at + i) 0

-- r is x, with what stands 28 bits further up in x laid over it
pub record Folded (x r : ℕ) : Type 0 where
  pub each : (n : ℕ) → bit r n ≡ (bit x n || bit x (28 + n))

-- r is eight bits of x side by side: bits 0, 8, 16 and 24, then bits 4, 12, 20 and 28
pub record Gathered (x r : ℕ) : Type 0 where
  pub small : r < 256
  pub lower : (i : ℕ) → i < 4 → bit r i ≡ bit x (8 * i)
  pub upper : (i : ℕ) → i < 4 → bit r (4 + i) ≡ bit x (8 * i + 4)

-- r is a bit, eight bits and eight bits side by side
pub record Laid (first low high r : ℕ) : Type 0 where
  pub small : r < 131072
  pub at_first : bit r 0 ≡ bit first 0
  pub at_low : (i : ℕ) → i < 8 → bit r (1 + i) ≡ bit low i
  pub at_high : (i : ℕ) → i < 8 → bit r (9 + i) ≡ bit high i

-- the byte x is the digit 0, 1 or 2 (bytes 48, 49, 50): 1 says that an access is offered, 2 a writeback
pub record Digit (x : ℕ) (access writeback : Bool) : Type 0 where
  pub low : 48 ≤ x
  pub high : x ≤ 50
  pub is_access : access ≡ eqb x 49
  pub is_writeback : writeback ≡ eqb x 50

-- seventeen such digits from `at` on, as two masks: bit n of each tells of digit n, and there is no other bit
pub record Offered (b : List ℕ) (at access writeback : ℕ) : Type 0 where
  pub each : (n : ℕ) → n < 17 → Digit (get_or b (at + n) 0) (bit access n) (bit writeback n)
  pub no_access : (n : ℕ) → 17 ≤ n → bit access n ≡ false
  pub no_writeback : (n : ℕ) → 17 ≤ n → bit writeback n ≡ false
  pub small_access : access < 131072
  pub small_writeback : writeback < 131072
