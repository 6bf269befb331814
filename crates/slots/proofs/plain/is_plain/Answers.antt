-- `slots::plain::is_plain` meets its contract.
-- Assumes nothing.
use mathlib.Core.Path.{sym, ap, ◌∙◌}
use Prim.Native.Nat.{ℕ}
use native.Mathlib.Omega.{arith}
use borrow.Author.Tests.{eqb-false, not-true}
use Rattle.bits.specs.Bits.{bit}
use Rattle.bits.proofs.Laws.{bit_zero}
use Rattle.slots.proofs.Laws.Offering.{planned_bit}
use Rattle.slots.proofs.plain.is_plain.Goals as goal

pub returns-then-f-ne4294967295 : goal.returns-then-f-ne4294967295
returns-then-f-ne4294967295 c =
    λ e.
    record {
      unfilled = c.if-f-ne4294967295.true.1;
      more = λ z. eqb-false _ _ (not-true _ e) (omega (arith, c.from.ensures, z));
      planned = λ n q.
          planned_bit _ _ (sym (ap (λ (x : ℕ). bit x n) c.if-f-ne4294967295.true.0 ∙ bit_zero n) ∙ c.less-unplanned.ensures n)
          (c.join.ensures n ∙ q);
    }
