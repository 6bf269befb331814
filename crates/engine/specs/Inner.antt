-- What the functions inside the engine, and those of the crates that run on it, promise each other: masks stated bit by bit.
-- No contract of a public call cites this.
-- Assumes nothing.
use Rattle.std.specs.Prelude.{◌≡◌, Bool, true, false, not, ◌&&◌, ◌||◌, List, ℕ, ◌+◌, ◌≤◌, eqb, ltb}
use Rattle.table.specs.Sums.{nth}
use Rattle.bits.specs.Bits.{bit}
use Rattle.regulator.specs.Turn.{distance}
use Rattle.engine.specs.Masks.{lowest_bit}
use Rattle.engine.specs.declared.turn.Picked.{Picked}

-- The offers, none above 2, as a mask of the accesses and one of the writebacks.
pub record Given (offers : List ℕ) (access writeback : ℕ) : Type 0 where
  pub access_at : (n : ℕ) → bit access n ≡ eqb (nth offers n) 1
  pub writeback_at : (n : ℕ) → bit writeback n ≡ eqb (nth offers n) 2
  pub known : (n : ℕ) → nth offers n ≤ 2

-- A mask of domains: number k + 1 is in it where the test of index k holds, and number 0 is not.
pub record Marks (mask : ℕ) (test : ℕ → Bool) : Type 0 where
  pub best : bit mask 0 ≡ false
  pub at : (k : ℕ) → bit mask (k + 1) ≡ test k

-- Four masks of a state's lists: `has` claim, `back` writeback claim, `may` reclaim (reclaimed is not R), `room` for a writeback
-- (writebacks are not W; best effort has no cap).
pub record Marked (claim writebackclaim reclaimed writebacks reclaimcap writebackcap : List ℕ) (has back may room : ℕ) : Type 0 where
  pub has_best : bit has 0 ≡ false
  pub has_at : (k : ℕ) → bit has (k + 1) ≡ ltb 0 (nth claim k)
  pub back_best : bit back 0 ≡ false
  pub back_at : (k : ℕ) → bit back (k + 1) ≡ ltb 0 (nth writebackclaim k)
  pub may_at : (k : ℕ) → bit may (k + 1) ≡ not (eqb (nth reclaimed k) (nth reclaimcap k))
  pub room_best : bit room 0 ≡ true
  pub room_at : (k : ℕ) → bit room (k + 1) ≡ not (eqb (nth writebacks k) (nth writebackcap k))

-- One number, of its bits: it waits on claim; it passes where nobody is blocked (`best`: it is best effort); it passes.
abbrev pub wait_at : (access writeback has back : Bool) → Bool
wait_at access writeback has back = (access && has) || (writeback && back)

abbrev pub free_at : (best access writeback may room stock : Bool) → Bool
free_at best access writeback may room stock = (access && (best || (may && stock))) || (writeback && room)

abbrev pub pass_at : (wait free blocked : Bool) → Bool
pass_at wait free blocked = wait || (not blocked && free)

-- the number that a mask grants, and its steps from the turn
abbrev pub picked_of : (mask turn : ℕ) → Picked
picked_of mask turn = record { number = lowest_bit mask turn; steps = distance turn (lowest_bit mask turn) }
