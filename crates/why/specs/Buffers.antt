-- A script that is read part by part, between two reads: where the search and the part stand in the buffer.
-- Assumes nothing.
use Rattle.std.specs.Prelude.{ℕ, ◌≤◌}
use Rattle.question.specs.Seeking.{Sound}
use Rattle.question.specs.declared.seeking.Search.{Search}

-- what is done of the part is within it, and the part is within its buffer
pub record Within (q : Search) (filled room : ℕ) : Type 0 where
  pub sound : Sound q
  pub used : q.used ≤ filled
  pub part : filled ≤ room
