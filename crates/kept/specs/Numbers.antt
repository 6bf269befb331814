-- A state taken apart into numbers, tables and what no slot changes; and what is kept of it from slot to slot.
-- Assumes nothing.
use Rattle.std.specs.Prelude.{◌≡◌, ◌≢◌, List, ℕ, ◌+◌, ◌≤◌, ◌<◌, length}
use Rattle.table.specs.Sums.{nth, sum}
use Rattle.plan.specs.declared.value.Plan.{Plan}
use Rattle.regulator.specs.declared.state.State.{State}
use Rattle.regulator.specs.declared.state.Waiting.{Waiting}
use Rattle.regulator.specs.declared.forecast.Tracked.{Tracked}
use Rattle.engine.specs.Inner.{Marked}
use Rattle.kept.specs.declared.tables.Tables.{Tables}
use Rattle.kept.specs.declared.numbers.Numbers.{Numbers}

-- what no slot changes
pub record Rest : Type 0 where
  pub plan : Plan
  pub yielded : List ℕ
  pub waiting : Waiting
  pub tracked : List Tracked

-- the state that the three stand for
abbrev pub state_of : Rest → Numbers → Tables → State
state_of x f t =
    record {
      plan = x.plan;
      decided = f.decided;
      closed = f.closed;
      idle = f.idle;
      best = f.best;
      stock = f.stock;
      turn = f.turn;
      claim = t.claim;
      reserved = t.reserved;
      reclaimed = t.reclaimed;
      yielded = x.yielded;
      writebacks = t.writebacks;
      steps = f.steps;
      waiting = x.waiting;
      writebackclaim = t.writebackclaim;
      tracked = x.tracked;
    }

-- a state's own
abbrev pub rest_of : State → Rest
rest_of s = record { plan = s.plan; yielded = s.yielded; waiting = s.waiting; tracked = s.tracked }

abbrev pub tables_of : State → Tables
tables_of s =
    record {
      claim = s.claim;
      reserved = s.reserved;
      reclaimed = s.reclaimed;
      writebacks = s.writebacks;
      writebackclaim = s.writebackclaim;
    }

-- the period and the caps that are lent are the plan's
pub record Of (x : Rest) (period : ℕ) (reclaimcap writebackcap : List ℕ) : Type 0 where
  pub period_is : x.plan.period ≡ period
  pub reclaimcap_is : x.plan.reclaimcap ≡ reclaimcap
  pub writebackcap_is : x.plan.writebackcap ≡ writebackcap

-- The kept masks are those of the tables, and `spoken` is what is spoken for of the period: the slots decided and both claims.
pub record Kept (reclaimcap writebackcap : List ℕ) (f : Numbers) (t : Tables) : Type 0 where
  pub marked : Marked t.claim t.writebackclaim t.reclaimed t.writebacks reclaimcap writebackcap f.masks.has f.masks.back f.masks.may f.masks.room
  pub spoken_is : f.spoken ≡ f.decided + (sum t.claim + sum t.writebackclaim)

-- What a state that adds up gives, with T below P: lengths, bounds, and that a domain with writeback claim left is below its writeback
-- cap. (No slot keeps it: each next one has it from the state again.)
pub record Ready (reclaimcap writebackcap : List ℕ) (f : Numbers) (t : Tables) : Type 0 where
  pub reclaimcap_long : length reclaimcap ≡ 16
  pub writebackcap_long : length writebackcap ≡ 16
  pub claim_long : length t.claim ≡ 16
  pub reserved_long : length t.reserved ≡ 16
  pub reclaimed_long : length t.reclaimed ≡ 16
  pub writebacks_long : length t.writebacks ≡ 16
  pub writebackclaim_long : length t.writebackclaim ≡ 16
  pub reserved_small : (k : ℕ) → nth t.reserved k ≤ 4096
  pub reclaimed_small : (k : ℕ) → nth t.reclaimed k ≤ 4096
  pub writebacks_small : (k : ℕ) → nth t.writebacks k ≤ 4096
  pub below : (k : ℕ) → 0 < nth t.writebackclaim k → nth t.writebacks k ≢ nth writebackcap k
  pub turn_small : f.turn ≤ 16
  pub time : f.decided < 4096
  pub idle_small : f.idle ≤ 4096
  pub best_small : f.best ≤ 4096
  pub steps_small : f.steps ≤ 69632
  pub spoken_small : f.spoken ≤ 8192
