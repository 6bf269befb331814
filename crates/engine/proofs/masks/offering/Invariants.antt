-- `engine::masks::offering` meets its contract.
-- Assumes nothing.
use Prim.Native.Nat.{ℕ, ◌<◌}
use lib.Dec.{eqb}
use Rattle.table.specs.Sums.{nth}
use Rattle.engine.proofs.Laws.Masking.{Filled}
use Rattle.engine.proofs.masks.offering.Given as goal

abbrev pub invariant-loop-n : goal.invariant-loop-n
invariant-loop-n l = (l.m < 4294967296) × Filled l.m 0 (λ (k : ℕ). eqb (nth l.offers k) l.kind) l.n
