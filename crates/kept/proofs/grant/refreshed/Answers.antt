-- `kept::grant::refreshed` meets its contract: bit n set, cleared, or left.
-- Assumes nothing.
use mathlib.Core.Path.{ap, ◌∙◌}
use mathlib.Core.Bool.{Bool, not, ◌&&◌, ◌||◌}
use lib.Dec.{eqb}
use Rattle.bits.specs.Bits.{bit}
use Rattle.kept.proofs.Laws.Leaves.{set_bit, clear_bit, same_bit}
use Rattle.kept.proofs.grant.refreshed.Goals as goal

pub returns-then-on : goal.returns-then-on
returns-then-on c =
    let a = c.args in
    record {
      at = λ k.
          rw c.if-not-moved.false
          (c.join.ensures k ∙ ap (λ (b : Bool). bit a.mask k || b) (c.one.ensures k) ∙ set_bit (bit a.mask k) (eqb k a.n) a.on c.if-on.true);
    }

pub returns-else-on : goal.returns-else-on
returns-else-on c =
    let a = c.args in
    record {
      at = λ k.
          rw c.if-not-moved.false
          (c.less.ensures k ∙ ap (λ (b : Bool). bit a.mask k && not b) (c.one-else-on.ensures k) ∙ clear_bit (bit a.mask k) (eqb k a.n) a.on c.if-on.false);
    }

pub returns-then-not-moved : goal.returns-then-not-moved
returns-then-not-moved c =
    let a = c.args in
    record { at = λ k. rw c.if-not-moved.true (same_bit (bit a.mask k) (eqb k a.n) a.on) }
