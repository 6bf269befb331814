-- `digits::lanes::gather` meets its contract.
-- Assumes nothing.
use native.Mathlib.Omega.{arith}
use lib.Bits.{and_le_r}
use Rattle.digits.proofs.Laws.Gathering.{gathered}
use Rattle.digits.proofs.lanes.gather.Goals as goal

pub overflow_mul-result : goal.overflow_mul-result
overflow_mul-result c = record { fits = omega (arith, and_le_r c.args.x 0x11111111) }

pub overflow_cast-result : goal.overflow_cast-result
overflow_cast-result c = record { fits = omega (arith, (gathered c.args.x).small) }

pub returns : goal.returns
returns c = gathered c.args.x
