-- `regulator::forecast::left_over` meets its contract: what is left over is filled in from the front.
-- Assumes nothing.
use mathlib.Core.List.{List}
use Prim.Native.Nat.{ℕ, ◌-◌}
use Rattle.table.specs.Sums.{nth}
use Rattle.table.proofs.Filling.{Filled}
use Rattle.regulator.proofs.forecast.left_over.Given as goal

-- what is left at index j
abbrev pub left : List ℕ → List ℕ → ℕ → ℕ
left q claims j = nth q j - nth claims j

abbrev pub invariant-loop-k : goal.invariant-loop-k
invariant-loop-k l = Filled (left l.q l.claims) 16 l.yields l.k
