-- Each turn goes to a later line.
use Rattle.std.proofs.Common.{length}
use Rattle.trial_edits.proofs.stated.cases.Given as goal

abbrev pub decreases-loop-s : goal.decreases-loop-s
decreases-loop-s g l = length l.text
