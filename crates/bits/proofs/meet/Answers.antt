-- `bits::meet` meets its contract.
use Rattle.bits.proofs.Laws.Operations.{bit_and_lem}
use Rattle.bits.proofs.meet.Goals as goal

pub returns : goal.returns
returns c = λ k. bit_and_lem c.args.a c.args.b k
