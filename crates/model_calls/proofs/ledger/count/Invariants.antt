-- `model_calls::ledger::count` counts each of the sixteen domains at most once.
use Rattle.std.proofs.Common.{◌+◌, ◌≤◌}
use Rattle.model_calls.proofs.ledger.count.Given as goal

abbrev pub invariant-loop-n : goal.invariant-loop-n
invariant-loop-n g l = l.count + 1 ≤ l.n
