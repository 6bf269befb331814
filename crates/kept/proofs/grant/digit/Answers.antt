-- `kept::grant::digit` meets its contract.
-- Assumes nothing.
use native.Mathlib.Omega.{arith}
use Rattle.kept.proofs.Laws.Leaves.{digit_most, digit_is}
use Rattle.kept.proofs.grant.digit.Goals as goal

pub overflow_cast-result : goal.overflow_cast-result
overflow_cast-result c = record { fits = omega (arith, digit_most c.args.mask c.args.n) }

pub returns : goal.returns
returns c = digit_is c.args.mask c.args.n
