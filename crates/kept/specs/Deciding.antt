-- What one slot on numbers and tables stands for.
-- Assumes nothing.
use Rattle.std.specs.Prelude.{◌≡◌, List, ℕ}
use Rattle.regulator.specs.Turn.{granted}
use Rattle.regulator.specs.Grant.{decided_of}
use Rattle.engine.specs.Inner.{Given}
use Rattle.kept.specs.declared.tables.Tables.{Tables}
use Rattle.kept.specs.Numbers.{Rest, state_of, Of}
use Rattle.kept.specs.declared.numbers.Numbers.{Numbers}

-- The state after is the regulator's after a decided slot of these offers, for whatever else the state holds under that period and those
-- caps.
pub record Decided (period access writeback : ℕ) (reclaimcap writebackcap : List ℕ) (f : Numbers) (t : Tables) (r : Numbers) (t' : Tables) : Type 0 where
  pub state : (x : Rest) (o : List ℕ) → Of x period reclaimcap writebackcap → Given o access writeback
      → state_of x r t' ≡ decided_of (state_of x f t) o (granted (state_of x f t) o)
