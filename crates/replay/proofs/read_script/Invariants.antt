-- `replay::read_script` meets its contract.
-- Assumes nothing.
use lib.ListN.{length}
use Rattle.replay.specs.Buffers.{Within}
use Rattle.replay.proofs.read_script.Given as goal

abbrev pub invariant-loop : goal.invariant-loop
invariant-loop g l = Within l.s.run l.s.part.filled (length l.text) (length l.out)
