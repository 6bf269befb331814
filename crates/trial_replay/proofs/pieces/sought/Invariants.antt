-- What was used lies within each part, and each part is longer than the last.
use Rattle.std.proofs.Common.{◌-◌, ◌<◌, ◌≤◌, length}
use Rattle.question.specs.Seeking.{Sound}
use Rattle.trial_replay.proofs.pieces.sought.Given as goal

abbrev pub invariant-loop-more : goal.invariant-loop-more
invariant-loop-more l = (l.end ≤ length l.script) × Sound l.q × (l.q.used ≤ l.end) × (0 < l.more)

abbrev pub decreases-loop-more : goal.decreases-loop-more
decreases-loop-more l = length l.script - l.end
