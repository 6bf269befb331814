-- `script::feeding::start` meets its contract: a plan that is refused, or the header.
-- Assumes nothing.
use mathlib.Core.Path.{sym, ◌∙◌}
use Rattle.regulator.specs.declared.faults.HandFault.{HandFault}
use Rattle.regulator.proofs.Laws.Telling.{hand_numbered}
use Rattle.script.proofs.Laws.Feeding.{start_refused, start_good, started_back, opened_as}
use borrow.Author.Rules.{rules}
use Rattle.script.proofs.feeding.start.Goals as goal

pub returns-in-Ok : goal.returns-in-Ok
returns-in-Ok c =
    let a = c.args in
    let o = opened_as a.plan.now c.in-Ok.is c.opened.ensures in
    let told = start_good a.plan.now a.out.now _ c.put_header.new.text.at c.in-Ok.state o.1 o.0 c.put_header.ensures.more in
    started_back (search rules) told

pub returns-in-Err : goal.returns-in-Err
returns-in-Err c =
    let a = c.args in
    let o = opened_as a.plan.now c.in-Err.is c.opened.ensures in
    let n = c.number-refused.ensures in
    let told =
    start_refused a.plan.now a.out.now _ c.put_plan_refused.new.text.at c.no_state.result c.number-refused.result c.in-Err.e.place
    (n ∙ sym o.0) (sym o.1) (λ z. hand_numbered (HandFault.Plan c.in-Err.e) (sym n ∙ z)) (search rules) (search rules)
    c.put_plan_refused.ensures.more in
    started_back (search rules) told
