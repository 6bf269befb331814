-- The laws of bits, by topic; all of them can be cited from here.
pub mod Operations
pub mod Shifts
pub mod Lowest
pub use Rattle.bits.proofs.Laws.Operations.{bit_op, four, bit_and_lem, bit_or_lem, bit_xor_lem, bit_less}
pub use Rattle.bits.proofs.Laws.Shifts.{bit_zero, bit_pow, bit_shr, bit_shl_low, bit_shl, cleared_low, cleared_high, cleared_le, bit_above, bits_none, bits_small, join_low, join_high, shl_one, test_bit}
pub use Rattle.bits.proofs.Laws.Lowest.{lowest_below, lowest_set, lowest_there}
