-- `why::read_script` meets its contract.
-- Assumes nothing.
use lib.ListN.{length}
use Rattle.why.specs.Buffers.{Within}
use Rattle.why.proofs.read_script.Given as goal

abbrev pub invariant-loop : goal.invariant-loop
invariant-loop g l = Within l.s.search l.s.part.filled (length l.text)
