-- `bits::less` meets its contract.
use Rattle.bits.proofs.Laws.Operations.{bit_less}
use Rattle.bits.proofs.less.Goals as goal

pub returns : goal.returns
returns c = λ k. bit_less c.args.a c.args.b k
