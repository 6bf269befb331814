-- `model_plans::along::sum_after` is safe: k records come to at most k times 131,070.
use Rattle.std.proofs.Common.{◌*◌, ◌≤◌}
use Rattle.model_plans.proofs.along.sum_after.Given as goal

abbrev pub invariant-loop-k : goal.invariant-loop-k
invariant-loop-k l = l.sum ≤ 131071 * l.k
