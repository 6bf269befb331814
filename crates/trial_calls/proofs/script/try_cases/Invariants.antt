-- Each turn goes to a later line.
use Rattle.std.proofs.Common.{length, ◌-◌}
use Rattle.trial_calls.proofs.script.try_cases.Given as goal

abbrev pub decreases-loop-at : goal.decreases-loop-at
decreases-loop-at g l = length l.initial.text - l.at
