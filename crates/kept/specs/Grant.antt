-- A slot's grant on numbers and tables. What one to a domain takes follows from three bits: it offers a writeback, it has claim, it has
-- writeback claim.
-- Assumes nothing.
use Rattle.std.specs.Prelude.{◌≡◌, ◌≢◌, Bool, true, false, cond, not, ◌&&◌, List, ℕ, ◌+◌, ◌-◌, ◌<◌, ltb, eqb}
use Rattle.table.specs.Sums.{nth}
use Rattle.bits.specs.Bits.{bit}
use Rattle.regulator.specs.Turn.{after}
use Rattle.regulator.specs.Grant.{grant, onward}
use Rattle.kept.specs.declared.tables.Tables.{Tables}
use Rattle.kept.specs.Numbers.{Rest, state_of}
use Rattle.kept.specs.declared.numbers.Numbers.{Numbers}
use Rattle.kept.specs.declared.tables.Taken.{Taken}
use Rattle.kept.specs.declared.tables.Row.{Row}

-- 1 or 0
abbrev pub one : Bool → ℕ
one b = cond b 1 0

-- an access takes claim, or else stock; a writeback takes writeback claim, or nothing
abbrev pub taken_of : (writeback has back : Bool) → Taken
taken_of writeback has back =
    record {
      claim = one (not writeback && has);
      stock = one (not writeback && not has);
      writeback = one writeback;
      writebackclaim = one (writeback && back);
    }

-- no claim that was taken from is used up, and no count that rose is at its cap
pub record Lasting (d : Taken) (row : Row) (rcap wcap : ℕ) : Type 0 where
  pub claim_lasts : d.claim ≢ 0 → row.claim ≢ 0
  pub reclaim_lasts : d.stock ≢ 0 → row.reclaimed ≢ rcap
  pub room_lasts : d.writeback ≢ 0 → row.writebacks ≢ wcap
  pub back_lasts : d.writebackclaim ≢ 0 → row.writebackclaim ≢ 0

-- a mask of which bit n is `on` where it may have moved, and which is else as it was
pub record Refreshed (mask n : ℕ) (moved on : Bool) (r : ℕ) : Type 0 where
  pub at : (k : ℕ) → bit r k ≡ cond (eqb k n && moved) on (bit mask k)

-- the numbers after a grant to domain n; where something may have ended, its bits are those of its row
pub record Renewed (f : Numbers) (n steps : ℕ) (d : Taken) (row : Row) (ended : Bool) (rcap wcap : ℕ) (r : Numbers) : Type 0 where
  pub decided_is : r.decided ≡ f.decided + 1
  pub closed_is : r.closed ≡ f.closed
  pub idle_is : r.idle ≡ f.idle
  pub best_is : r.best ≡ f.best
  pub stock_is : r.stock ≡ f.stock - d.stock
  pub turn_is : r.turn ≡ after n
  pub steps_is : r.steps ≡ f.steps + steps
  pub spoken_is : r.spoken ≡ f.spoken + 1 - (d.claim + d.writebackclaim)
  pub has_is : Refreshed f.masks.has n ended (ltb 0 row.claim) r.masks.has
  pub back_is : Refreshed f.masks.back n ended (ltb 0 row.writebackclaim) r.masks.back
  pub may_is : Refreshed f.masks.may n ended (not (eqb row.reclaimed rcap)) r.masks.may
  pub room_is : Refreshed f.masks.room n ended (not (eqb row.writebacks wcap)) r.masks.room

-- What passing tells of domain n: without writeback and claim it may reclaim and there is stock, and its writeback is below the cap.
pub record Fit (f : Numbers) (n : ℕ) (writeback : Bool) : Type 0 where
  pub may_reclaim : writeback ≡ false → bit f.masks.has n ≡ false → (bit f.masks.may n ≡ true) × (0 < f.stock)
  pub has_room : writeback ≡ true → bit f.masks.room n ≡ true

-- The state after is the regulator's after a grant to domain n, for whatever else the state holds and whatever the others offer.
pub record Gives (writeback n steps : ℕ) (f : Numbers) (t : Tables) (r : Numbers) (t' : Tables) : Type 0 where
  pub state : (x : Rest) (o : List ℕ) → bit writeback n ≡ eqb (nth o n) 2 → state_of x r t' ≡ onward (grant (state_of x f t) o n) n steps

-- the numbers after a slot in which nobody is granted, and after one of best effort
abbrev pub rested : Numbers → (steps : ℕ) → Numbers
rested f steps =
    record {
      decided = f.decided + 1;
      closed = f.closed;
      idle = f.idle + 1;
      best = f.best;
      stock = f.stock;
      turn = f.turn;
      steps = f.steps + steps;
      spoken = f.spoken + 1;
      masks = f.masks;
    }

abbrev pub served : Numbers → (steps : ℕ) → Numbers
served f steps =
    record {
      decided = f.decided + 1;
      closed = f.closed;
      idle = f.idle;
      best = f.best + 1;
      stock = f.stock;
      turn = 1;
      steps = f.steps + steps;
      spoken = f.spoken + 1;
      masks = f.masks;
    }
