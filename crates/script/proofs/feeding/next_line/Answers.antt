-- `script::feeding::next_line` meets its contract.
-- Assumes nothing.
use mathlib.Core.Path.{sym, ◌∙◌}
use native.Mathlib.Omega.{arith}
use Rattle.script.proofs.Laws.Feeding.{fed_taken, fed_refused, fed_back, line_small}
use Rattle.script.proofs.Laws.Carrying.{stepped_as, line_numbered}
use borrow.Author.Rules.{rules}
use Rattle.script.proofs.feeding.next_line.Goals as goal

pub slice_bounds-carry_out-count : goal.slice_bounds-carry_out-count
slice_bounds-carry_out-count c = c.requires.line_end.low

pub slice_bounds-carry_out-start : goal.slice_bounds-carry_out-start
slice_bounds-carry_out-start c = omega (arith, c.requires.line_end)

pub slice_bounds-carry_out-end : goal.slice_bounds-carry_out-end
slice_bounds-carry_out-end c = omega (arith, c.requires.line_end)

pub carry_out-requires : goal.carry_out-requires
carry_out-requires c = c.requires.sound.adds c.requires.refused_value

pub overflow_add-result : goal.overflow_add-result
overflow_add-result c = omega (arith, line_small c.args.r c.requires.sound c.requires.refused_value (search rules) (search rules))

pub returns-in-Ok-clause-fed : goal.returns-in-Ok-clause-fed
returns-in-Ok-clause-fed c =
    let h = c.requires in
    let fed =
    fed_taken c.args.r _ _ h.line_end h.part_value h.refused_value h.sound (search rules) (search rules) _ _ h.room_value
    _ _ _ (stepped_as c.in-Ok.is c.carry_out.ensures.stepped) in
    fed_back (search rules) fed

pub returns-in-Ok-clause-used_lt_used : goal.returns-in-Ok-clause-used_lt_used
returns-in-Ok-clause-used_lt_used c = λ e. omega (arith, c.requires.line_end.low)

pub returns-in-Err-clause-fed : goal.returns-in-Err-clause-fed
returns-in-Err-clause-fed c =
    let h = c.requires in
    let fed =
    fed_refused c.args.r _ _ h.line_end h.part_value h.refused_value h.sound (search rules) (search rules) _ _ h.room_value
    _ _ _ (stepped_as c.in-Err.is c.carry_out.ensures.stepped) _ c.number-refused.ensures (search rules)
    (omega (arith, line_small c.args.r h.sound h.refused_value (search rules) (search rules)))
    _ _ c.put_line_refused.ensures.more in
    fed_back (search rules) fed

pub returns-in-Err-clause-used_lt_used : goal.returns-in-Err-clause-used_lt_used
returns-in-Err-clause-used_lt_used c = λ e. absurd (line_numbered c.in-Err.fault (sym c.number-refused.ensures ∙ e))
