-- `model_edits::rescuing::is_above` is safe: k records come to less than k times 2 to the 33.
use Rattle.std.proofs.Common.{◌*◌, ◌≤◌}
use Rattle.model_edits.proofs.rescuing.is_above.Given as goal

abbrev pub invariant-loop-k : goal.invariant-loop-k
invariant-loop-k l = l.sum ≤ 131072 * l.k
