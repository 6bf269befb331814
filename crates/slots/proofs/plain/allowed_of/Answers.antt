-- `slots::plain::allowed_of` meets its contract.
-- Assumes nothing.
use mathlib.Core.Path.{ap, ◌∙◌}
use mathlib.Core.Bool.{Bool, true, ◌&&◌, ◌||◌, or-true, or-false}
use Prim.Native.Nat.{◌+◌}
use native.Mathlib.Omega.{arith}
use borrow.Author.Tests.{ne_eqb}
use Rattle.bits.specs.Bits.{bit}
use Rattle.slots.proofs.plain.allowed_of.Goals as goal

pub returns : goal.returns
returns c =
    let m = c.planned_mask in
    record {
      best = c.with_bit.ensures 0 ∙ or-true (bit m.result 0);
      at = λ k.
          c.with_bit.ensures (k + 1)
          ∙ ap (λ (x : Bool). bit m.result (k + 1) || (x && true)) (ne_eqb (k + 1) 0 (λ z. omega arith))
          ∙ or-false (bit m.result (k + 1))
          ∙ m.ensures.at k;
    }
