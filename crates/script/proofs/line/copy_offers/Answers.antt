-- `script::line::copy_offers` meets its contract.
-- Assumes nothing.
use native.Mathlib.Omega.{arith}
use Rattle.table.proofs.Members.{each_at}
use Rattle.script.specs.Line.{is_digit}
use Rattle.script.proofs.Laws.Reading.{offers_more, offers_all}
use Rattle.script.proofs.line.copy_offers.Goals as goal

pub figure-requires : goal.figure-requires
figure-requires c =
    each_at is_digit c.args.digits.now c.loop-i.i c.requires.digits_value (omega (arith, c.loop-i-test.true, c.requires.digits_len, c.requires.offers_len))

pub loop-i-preserved : goal.loop-i-preserved
loop-i-preserved c =
    offers_more c.args.digits.now c.loop-i.offers c.loop-i.i c.figure.result
    (omega (arith, c.loop-i.auto.offers, c.loop-i-test.true))
    (omega (arith, c.loop-i-test.true, c.requires.digits_len, c.requires.offers_len))
    c.figure.ensures c.loop-i.invariant

pub returns : goal.returns
returns c =
    offers_all c.args.digits.now c.loop-i.offers c.loop-i.i
    (omega (arith, c.loop-i.auto.offers, c.loop-i.auto.i-end, c.loop-i-test.false))
    (omega (arith, c.loop-i.auto.i-end, c.loop-i-test.false, c.requires.digits_len, c.requires.offers_len))
    c.loop-i.invariant
