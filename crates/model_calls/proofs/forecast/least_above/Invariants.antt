-- `model_calls::forecast::least_above` halves what lies between two numbers, and ends.
use Rattle.std.proofs.Common.{◌-◌, ◌≤◌}
use Rattle.model_calls.proofs.forecast.least_above.Given as goal

abbrev pub invariant-loop-low : goal.invariant-loop-low
invariant-loop-low l = (l.low ≤ l.high) × (l.high ≤ l.most)

abbrev pub decreases-loop-low : goal.decreases-loop-low
decreases-loop-low l = l.high - l.low
