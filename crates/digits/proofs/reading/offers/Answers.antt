-- `digits::reading::offers` meets its contract.
-- Assumes nothing.
use native.Mathlib.Omega.{arith}
use lib.Bits.{bit_xor, mask_lt}
use Rattle.digits.proofs.Laws.Marking.{offered}
use Rattle.digits.proofs.reading.offers.Goals as goal

pub lay-access-requires : goal.lay-access-requires
lay-access-requires c = (mask_lt (bit_xor c.from-best.result 48) 1, c.gather.ensures.small, c.gather-2.ensures.small)

pub returns : goal.returns
returns c =
    offered c.args.b.now c.args.at (λ n. omega (arith, c.type_inv.b n))
    c.from-best.ensures c.word-low.ensures c.word-high.ensures
    c.if-others-ne0.false (omega (arith, c.if-best-gt3.false))
    c.fold-l.ensures c.fold-h.ensures
    c.gather.ensures c.gather-2.ensures c.lay-access.ensures
    c.gather-3.ensures c.gather-4.ensures c.lay-writeback.ensures
    c.if-twice-ne0.false
