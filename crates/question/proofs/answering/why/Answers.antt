-- `question::answering::why` meets its contract: the line that a search on all of the script ends with.
-- Assumes nothing.
use mathlib.Core.Path.{sym, ap, ◌∙◌}
use native.Mathlib.Omega.{arith}
use Rattle.script.specs.Output.{Output, output, put}
use Rattle.script.proofs.Laws.Putting.{put_holding}
use Rattle.question.specs.Answer.{why_text}
use Rattle.question.proofs.Laws.Searching.{answer_all}
use Rattle.question.proofs.answering.why.Goals as goal

pub seek-r-requires-clause-sound : goal.seek-r-requires-clause-sound
seek-r-requires-clause-sound c =
    let g = c.start-q.ensures in
    g.sound

pub seek-r-requires-clause-used_in_bounds : goal.seek-r-requires-clause-used_in_bounds
seek-r-requires-clause-used_in_bounds c =
    let g = c.start-q.ensures in
    omega (arith, g.none)

pub returns-clause-count : goal.returns-clause-count
returns-clause-count c =
    let a = c.args in
    let all = answer_all a.plan.now a.ask.now a.script.now _ _ c.start-q.ensures c.seek-r.ensures in
    let h = c.finish.ensures ∙ ap (put (output a.out.now 0)) (sym all) ∙ put_holding (why_text a.plan.now a.ask.now a.script.now) a.out.now in
    ap (λ (o : Output). o.count) h

pub returns-clause-text : goal.returns-clause-text
returns-clause-text c =
    let a = c.args in
    let all = answer_all a.plan.now a.ask.now a.script.now _ _ c.start-q.ensures c.seek-r.ensures in
    let h = c.finish.ensures ∙ ap (put (output a.out.now 0)) (sym all) ∙ put_holding (why_text a.plan.now a.ask.now a.script.now) a.out.now in
    ap (λ (o : Output). o.buffer) h
