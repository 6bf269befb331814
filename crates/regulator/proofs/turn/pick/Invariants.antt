-- `regulator::turn::pick` meets its contract: what is left to ask gives what all give, and the number at hand is as far from the turn as
-- numbers were asked.
-- Assumes nothing.
use mathlib.Core.Path.{◌≡◌}
use Prim.Native.Nat.{◌+◌, ◌-◌, ◌%◌, ◌≤◌}
use lib.Dec.{eqb}
use Rattle.table.specs.Sums.{nth}
use Rattle.regulator.specs.Turn.{ask}
use Rattle.regulator.proofs.turn.pick.Given as goal

abbrev pub invariant-loop-left : goal.invariant-loop-left
invariant-loop-left l =
    (l.n ≤ 16) × (l.left ≤ 17)
    × (ask (λ k. eqb (nth l.rulings k) 2) l.n l.left ≡ ask (λ k. eqb (nth l.rulings k) 2) l.turn 17)
    × (l.n ≡ (l.turn + (17 - l.left)) % 17)

abbrev pub decreases-loop-left : goal.decreases-loop-left
decreases-loop-left l = l.left
