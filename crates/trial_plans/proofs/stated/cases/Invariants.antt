-- Each turn goes to a later line.
use Rattle.std.proofs.Common.{length}
use Rattle.trial_plans.proofs.stated.cases.Given as goal

abbrev pub decreases-loop-p : goal.decreases-loop-p
decreases-loop-p g l = length l.text
