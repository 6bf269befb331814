-- `script::carrying::carry_out` meets its contract: the case that the reader answers is the line's meaning.
-- Assumes nothing.
use mathlib.Core.Path.{sym, ap, subst, ◌∙◌}
use Rattle.std.specs.Prelude.{Err}
use Rattle.script.specs.Line.{Meaning, told}
use Rattle.script.specs.Replay.{carried_out}
use Rattle.script.specs.Output.{shown}
use Rattle.script.specs.Inner.{Stepped}
use Rattle.script.specs.declared.line.Line.{Line}
use Rattle.script.specs.declared.carrying.LineFault.{LineFault}
use Rattle.script.proofs.Laws.Carrying.{step_bad, bad_line_lem}
use Rattle.script.proofs.carrying.carry_out.Goals as goal

pub returns-in-Slot-clause-stepped : goal.returns-in-Slot-clause-stepped
returns-in-Slot-clause-stepped c =
    let a = c.args in
    subst (λ (m : Meaning). Stepped (carried_out a.s m) a.s c.slot_step.result (shown a.text.now) (shown c.slot_step.new.text))
    (ap (λ (l : Line). told l c.read_line.new.offers) (sym c.in-Slot.is) ∙ c.read_line.ensures.told)
    c.slot_step.ensures.stepped

pub returns-in-Yield-clause-stepped : goal.returns-in-Yield-clause-stepped
returns-in-Yield-clause-stepped c =
    let a = c.args in
    subst (λ (m : Meaning). Stepped (carried_out a.s m) a.s c.yield_step.result (shown a.text.now) (shown a.text.now))
    (ap (λ (l : Line). told l c.read_line.new.offers) (sym c.in-Yield.is) ∙ c.read_line.ensures.told)
    (c.yield_step.ensures (shown a.text.now))

pub returns-in-Bad-clause-stepped : goal.returns-in-Bad-clause-stepped
returns-in-Bad-clause-stepped c =
    let a = c.args in
    let bad = ap (λ (l : Line). told l c.read_line.new.offers) (sym c.in-Bad.is) ∙ c.read_line.ensures.told in
    subst (λ (m : Meaning). Stepped (carried_out a.s m) a.s (Err LineFault.Form) (shown a.text.now) (shown a.text.now)) bad
    (step_bad a.s _ (bad_line_lem a.line.now _ (sym bad)) (shown a.text.now))
