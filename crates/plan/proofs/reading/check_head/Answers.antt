-- `plan::reading::check_head` meets its contract: a length that is not refused has room for record 0.
-- Assumes nothing.
use mathlib.Core.Path.{sym, ◌∙◌}
use native.Mathlib.Omega.{arith}
use Rattle.plan.proofs.Laws.Heads.{length_fits}
use Rattle.plan.proofs.reading.check_head.Goals as goal

pub u16_at-period-requires : goal.u16_at-period-requires
u16_at-period-requires c = omega (arith, (length_fits _ (sym c.no_length.ensures ∙ c.if-no_length.false)).long)

pub slice_bounds-all_zero-end : goal.slice_bounds-all_zero-end
slice_bounds-all_zero-end c = omega (arith, (length_fits _ (sym c.no_length.ensures ∙ c.if-no_length.false)).long)
