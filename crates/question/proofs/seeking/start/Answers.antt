-- `question::seeking::start` meets its contract: by what the file `ask` asks.
-- Assumes nothing.
use mathlib.Core.Path.{sym, ap, subst, ◌∙◌}
use Rattle.regulator.specs.declared.faults.HandFault.{HandFault}
use Rattle.regulator.proofs.Laws.Telling.{hand_numbered}
use Rattle.script.proofs.Laws.Feeding.{opened_as}
use Rattle.question.specs.Seeking.{Started}
use Rattle.question.specs.Inner.{asked_by, begun}
use Rattle.question.specs.declared.seeking.Stage.{Stage}
use Rattle.question.proofs.Laws.Searching.{started_malformed, started_refused, started_asked}
use Rattle.question.proofs.seeking.start.Goals as goal

pub returns-in_default : goal.returns-in_default
returns-in_default c =
    let a = c.args in
    let malformed = sym c.read_ask.ensures ∙ ap asked_by c.in_default.is in
    subst (Started a.plan.now a.ask.now) (sym c.begin.ensures) (started_malformed a.plan.now a.ask.now _ malformed)

pub returns-in-Ok : goal.returns-in-Ok
returns-in-Ok c =
    let a = c.args in
    let q = c.in-Some.asked in
    let asked = sym c.read_ask.ensures ∙ ap asked_by c.in-Some.is in
    let o = opened_as a.plan.now c.in-Ok.is c.opened-opened.ensures in
    subst (Started a.plan.now a.ask.now)
    (sym (c.begin-in-Ok.ensures ∙ ap (λ (g : Stage). begun g c.in-Ok.state q.slot q.number) c.first_stage.ensures))
    (started_asked a.plan.now a.ask.now _ q.slot q.number asked o.0 o.1)

pub returns-in-Err : goal.returns-in-Err
returns-in-Err c =
    let a = c.args in
    let q = c.in-Some.asked in
    let asked = sym c.read_ask.ensures ∙ ap asked_by c.in-Some.is in
    let o = opened_as a.plan.now c.in-Err.is c.opened-opened.ensures in
    let n = c.number.ensures in
    subst (Started a.plan.now a.ask.now) (sym c.begin-in-Err.ensures)
    (started_refused a.plan.now a.ask.now _ q.slot q.number asked _ _ (λ z. hand_numbered (HandFault.Plan c.in-Err.e) (sym n ∙ z)) (o.0 ∙ sym n) o.1)
