-- `engine::masks::unlike` meets its contract.
-- Assumes nothing.
use mathlib.Core.Bool.{not}
use Prim.Native.Nat.{ℕ}
use lib.Dec.{eqb}
use Rattle.table.specs.Sums.{nth}
use Rattle.engine.proofs.Laws.Masking.{Filled}
use Rattle.engine.proofs.masks.unlike.Given as goal

abbrev pub invariant-loop-i : goal.invariant-loop-i
invariant-loop-i l = Filled l.m 1 (λ (k : ℕ). not (eqb (nth l.a k) (nth l.b k))) l.i
