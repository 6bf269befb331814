-- What holds while the planned domains are laid in a mask.
-- Assumes nothing.
use Rattle.std.proofs.Common.{false, ℕ, get_or}
use Rattle.engine.proofs.Laws.Masking.{Filled}
use Rattle.slots.proofs.plain.planned_mask.Given as goal

abbrev pub invariant-loop-i : goal.invariant-loop-i
invariant-loop-i l = Filled l.m 1 (λ (k : ℕ). get_or l.planned k false) l.i
