-- `engine::masks::offering` meets its contract.
-- Assumes nothing.
use mathlib.Core.Path.{◌≡◌, refl, sym, ap, ◌∙◌}
use Prim.Native.Nat.{ℕ}
use native.Mathlib.Omega.{arith}
use native.Mathlib.Nat.{add-zero}
use lib.Dec.{eqb}
use borrow.Author.Rules.{rules}
use Rattle.table.specs.Sums.{nth}
use Rattle.bits.specs.Bits.{bit}
use Rattle.bits.proofs.Laws.{bits_small}
use Rattle.engine.proofs.Laws.Masking.{filled_none, filled_more, filled_all, offer_out}
use Rattle.engine.proofs.masks.offering.Goals as goal

pub loop-n-init : goal.loop-n-init
loop-n-init c = (omega arith, filled_none 0 _)

pub loop-n-preserved : goal.loop-n-preserved
loop-n-preserved c =
    let v = c.loop-n.invariant in
    (search rules, filled_more 0 _ _ _ _ _ _ (omega arith) refl v.1 c.with_bit-m.ensures)

pub returns : goal.returns
returns c =
    let o = c.args.offers.now in
    let kind = c.args.kind in
    let m = c.loop-n.m in
    let n = c.loop-n.n in
    let v = c.loop-n.invariant in
    let e : n ≡ 17 = omega (arith, c.requires.offers_len) in
    let out = offer_out o kind c.requires.offers_len c.requires.kind_nonzero in
    let all : ((k : ℕ) → bit m k ≡ eqb (nth o k) kind) = λ k.
    ap (bit m) (sym (add-zero k)) ∙ filled_all 0 (λ (k : ℕ). eqb (nth o k) kind) m n 17 e out v.1 k in
    record { bits = all; small = bits_small 17 32 m v.0 (λ k h. all k ∙ out k h) }
