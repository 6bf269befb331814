-- `model_calls::cells::total` is safe: n words come to less than n times 2 to the 32.
use Rattle.std.proofs.Common.{◌+◌, ◌*◌, ◌≤◌}
use Rattle.model_calls.proofs.cells.total.Given as goal

abbrev pub invariant-loop-n : goal.invariant-loop-n
invariant-loop-n l = l.sum + 4294967295 ≤ 4294967295 * l.n
