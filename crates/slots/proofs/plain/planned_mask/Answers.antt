-- `slots::plain::planned_mask` meets its contract.
-- Assumes nothing.
use mathlib.Core.Path.{◌≡◌, refl}
use mathlib.Core.Bool.{false}
use native.Mathlib.Omega.{arith}
use lib.ListN.{length, get_or-eq_default}
use borrow.Author.Rules.{rules}
use Rattle.engine.proofs.Laws.Masking.{filled_none, filled_more, filled_all}
use Rattle.slots.proofs.plain.planned_mask.Goals as goal

pub loop-i-init : goal.loop-i-init
loop-i-init c = filled_none 1 _

pub loop-i-preserved : goal.loop-i-preserved
loop-i-preserved c = filled_more 1 _ _ _ _ _ _ refl refl c.loop-i.invariant c.with_bit-m.ensures

pub returns : goal.returns
returns c =
    let a = c.args.planned in
    let i = c.loop-i.i in
    let h : length a ≡ 16 = search rules in
    let e : i ≡ 16 = omega arith in
    let v = c.loop-i.invariant in
    record {
      best = v.ahead 0 (omega arith);
      at = filled_all 1 _ _ i 16 e (λ k q. get_or-eq_default a false {n = k} (omega arith)) v;
    }
