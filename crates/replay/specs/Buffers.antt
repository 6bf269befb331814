-- A script that is read part by part, between two reads: where the run, the part and the text stand in the two buffers.
-- Assumes nothing.
use Rattle.std.specs.Prelude.{ℕ, ◌≤◌}
use Rattle.script.specs.Feeding.{Sound}
use Rattle.script.specs.declared.feeding.Run.{Run}

-- what is done of the part is within it, the part is within its buffer, and the text within its own
pub record Within (r : Run) (filled room out_room : ℕ) : Type 0 where
  pub sound : Sound r
  pub used : r.used ≤ filled
  pub part : filled ≤ room
  pub at : r.at ≤ out_room
