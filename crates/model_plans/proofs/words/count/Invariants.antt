-- `model_plans::words::count` is safe: k domains of two words each come to less than k times 2 to the 33.
use Rattle.std.proofs.Common.{◌*◌, ◌≤◌}
use Rattle.model_plans.proofs.words.count.Given as goal

abbrev pub invariant-loop-k : goal.invariant-loop-k
invariant-loop-k l = (l.present ≤ l.k) × (l.reservations ≤ 8589934590 * l.k)
