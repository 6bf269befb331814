-- `bits::one` meets its contract.
use Rattle.std.proofs.Common.{ℕ, ap, ◌∙◌}
use Rattle.bits.specs.Bits.{bit}
use Rattle.bits.proofs.Laws.Shifts.{shl_one, bit_pow}
use Rattle.bits.proofs.one.Goals as goal

pub returns : goal.returns
returns c = λ k. ap (λ (m : ℕ). bit m k) (shl_one c.args.n c.requires) ∙ bit_pow c.args.n k
