-- The slots that a script decides, in order, and the one that is asked for (document 02, Point 2).
-- Assumes nothing.
use Rattle.std.specs.Prelude.{ℕ, ◌-◌, List, [], ◌∷◌, cond, eqb}
use Rattle.regulator.specs.declared.state.State.{State}
use Rattle.script.specs.Line.{Meaning, slot_line, yield_line, bad_line, meaning_of}
use Rattle.script.specs.Replay.{carried_out}

-- a decided slot: the state before it, and its offers
pub record Decided : Type 0 where
  pub given : State
  pub offers : List ℕ

-- a line that is taken, before the slots behind it: a slot line decides one slot, a yield line none
abbrev pub slots_from : State → Meaning → List Decided → List Decided
slots_from s (slot_line offers) later = record { given = s; offers = offers } ∷ later
slots_from s (yield_line domain k) later = later
slots_from s (bad_line number) later = later

-- The slots that lines decide from a state on. The lines are carried out as in the replay, and a line that is refused ends the run.
unfoldable pub decided_by : State → List (List ℕ) → List Decided
decided_by s [] = []
decided_by s (line ∷ lines) =
    let d = carried_out s (meaning_of line) in
    cond (eqb d.refused 0) (slots_from s (meaning_of line) (decided_by d.state lines)) []

-- slot number k, if it is decided
pub data Found : Type 0 where
  undecided : Found
  decided : Decided → Found

-- "a slot number (from 1 over the run)": of slots in order, the k-th. (0 is none of them.)
unfoldable pub slot_at : ℕ → List Decided → Found
slot_at k [] = undecided
slot_at k (d ∷ ds) = cond (eqb k 1) (decided d) (slot_at (k - 1) ds)
