-- `model_calls::floats::float_of` makes a float only of a pattern whose exponent's field is not all ones, or whose digits are
-- all zero: its size is at most that of infinity.
use Rattle.std.proofs.Common.{arith}
use Rattle.std.proofs.lemmas.Float.{not_nan_f64_bits}
use Rattle.model_calls.proofs.floats.float_of.Goals as goal

pub float_from_bits-result : goal.float_from_bits-result
float_from_bits-result c = not_nan_f64_bits c.args.bits (omega arith)

pub float_from_bits-result-then-bits-eq0 : goal.float_from_bits-result-then-bits-eq0
float_from_bits-result-then-bits-eq0 c = not_nan_f64_bits c.args.bits (omega arith)
