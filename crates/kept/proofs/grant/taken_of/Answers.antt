-- `kept::grant::taken_of` meets its contract.
-- Assumes nothing.
use mathlib.Core.Path.{◌≡◌, refl, sym, ap, subst, ◌∙◌}
use mathlib.Core.Bool.{Bool, false, not, ◌&&◌}
use Prim.Native.Nat.{ℕ, ◌+◌, ◌≤◌}
use native.Mathlib.Omega.{arith}
use Rattle.bits.specs.Bits.{bit}
use Rattle.kept.specs.Tables.{Few}
use Rattle.kept.specs.Grant.{one}
use Rattle.kept.proofs.Laws.Taking.{digits_most, digits_taken, few}
use Rattle.kept.proofs.grant.taken_of.Goals as goal

-- The digits of claim and of writeback, as they are worked out, are at most 1 together.
at_most : {v c : ℕ} {x : Bool} (w h : Bool) → v ≡ one w → c ≡ one x → x ≡ (h && not w) → c + v ≤ 1
at_most w h vs cs xs = digits_most w h false _ _ _ vs (cs ∙ ap one xs) refl

pub overflow_add-result : goal.overflow_add-result
overflow_add-result c = record { fits = omega (arith, at_most _ _ c.digit-w.ensures c.digit-c.ensures (c.less.ensures c.args.n)) }

pub overflow_sub-result : goal.overflow_sub-result
overflow_sub-result c = at_most _ _ c.digit-w.ensures c.digit-c.ensures (c.less.ensures c.args.n)

pub returns : goal.returns
returns c =
    let a = c.args in
    let w = bit a.writeback a.n in
    let h = bit a.masks.has a.n in
    let q = bit a.masks.back a.n in
    let e = digits_taken w h q _ _ _ c.digit-w.ensures (c.digit-c.ensures ∙ ap one (c.less.ensures a.n)) (c.digit-b.ensures ∙ ap one (c.meet.ensures a.n)) in
    record { is = e; few = subst Few (sym e) (few w h q) }
