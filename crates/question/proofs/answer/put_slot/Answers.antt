-- `question::answer::put_slot` meets its contract: what is told is what the call explains.
-- Assumes nothing.
use mathlib.Core.Path.{sym, ap, ◌∙◌}
use borrow.Author.Tests.{ne_eqb}
use Rattle.table.proofs.Tables.{miss}
use Rattle.cause.specs.Explaining.{explained_by}
use Rattle.script.proofs.Laws.Putting.{puts_as}
use Rattle.question.specs.Answer.{ask_refused_text}
use Rattle.question.proofs.Laws.Answers.{slot_told, explain_numbered}
use Rattle.question.proofs.answer.put_slot.Goals as goal

pub returns-in-Ok : goal.returns-in-Ok
returns-in-Ok c =
    let a = c.args in
    puts_as (sym (slot_told a.s a.offers.now a.number c.requires _ (ap explained_by (sym c.in-Ok.is) ∙ c.explain.ensures))) c.put_told.ensures

pub returns-in-Err : goal.returns-in-Err
returns-in-Err c =
    let a = c.args in
    let told = slot_told a.s a.offers.now a.number c.requires _ (ap explained_by (sym c.in-Err.is) ∙ c.explain.ensures) in
    puts_as (ap ask_refused_text c.number.ensures ∙ sym (told ∙ miss _ _ _ (ne_eqb _ 0 (explain_numbered c.in-Err.fault)))) c.put_ask_refused.ensures
