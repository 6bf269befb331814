-- `script::line::value` meets its contract.
-- Assumes nothing.
use mathlib.Core.Path.{sym, ap, ◌∙◌}
use Prim.Native.Nat.{ℕ, ◌+◌, ◌*◌, ◌^◌, ◌<◌}
use native.Mathlib.Numerals.{add-one}
use native.Mathlib.Omega.{arith}
use lib.ListN.{get_or, drop}
use Rattle.table.proofs.Members.{each_at}
use Rattle.script.specs.Line.{is_digit, value_from}
use Rattle.script.proofs.Laws.Reading.{digit_least, value_more, value_none}
use Rattle.script.proofs.line.value.Goals as goal

pub figure-requires : goal.figure-requires
figure-requires c = each_at is_digit c.args.part.now c.loop-b.b-index c.requires.part_value c.loop-b-test.true

pub loop-b-preserved : goal.loop-b-preserved
loop-b-preserved c =
    let l = c.args.part.now in
    let i = c.loop-b.b-index in
    let n = c.loop-b.n in
    let d = digit_least (get_or l i 0) (each_at is_digit l i c.requires.part_value c.loop-b-test.true) in
    let f = c.from.ensures ∙ c.figure.ensures in
    let k : n * 10 + c.from.result < 10 ^ (i + 1) = rw (add-one) (omega (arith, c.loop-b.invariant.0, f, d)) in
    (k, ap (λ (x : ℕ). value_from (n * 10 + x) (drop (i + 1) l)) f ∙ sym (value_more n l i c.loop-b-test.true) ∙ c.loop-b.invariant.1)

pub returns : goal.returns
returns c = sym (value_none c.loop-b.n c.args.part.now c.loop-b.b-index c.loop-b-test.false) ∙ c.loop-b.invariant.1
