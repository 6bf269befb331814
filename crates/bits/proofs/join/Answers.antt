-- `bits::join` meets its contract.
use Rattle.bits.proofs.Laws.Operations.{bit_or_lem}
use Rattle.bits.proofs.join.Goals as goal

pub returns : goal.returns
returns c = λ k. bit_or_lem c.args.a c.args.b k
