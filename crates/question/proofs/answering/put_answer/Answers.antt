-- `question::answering::put_answer` meets its contract: a line for each stage.
-- Assumes nothing.
use mathlib.Core.Path.{◌≡◌, sym, ap}
use mathlib.Core.List.{[]}
use Rattle.script.specs.Output.{Puts}
use Rattle.script.specs.declared.output.Text.{Text}
use Rattle.script.proofs.Laws.Putting.{puts_as}
use Rattle.question.specs.Seeking.{is_found, stage_text, answer_text}
use Rattle.question.specs.declared.seeking.Search.{Search}
use Rattle.question.specs.declared.seeking.Stage.{Stage}
use Rattle.question.proofs.Laws.Searching.{at_stage, answer_end}
use Rattle.question.proofs.answering.put_answer.Goals as goal

told : {t u : Text} (q : Search) (g : Stage) → q.stage ≡ g → Puts t u (stage_text g q []) → Puts t u (answer_text q [])
told q g e p = puts_as (sym (at_stage q g [] e)) p

pub put_slot-requires : goal.put_slot-requires
put_slot-requires c = c.requires.found (ap is_found c.in-Found.is)

pub returns-in-Seeking : goal.returns-in-Seeking
returns-in-Seeking c = puts_as (sym (answer_end c.args.q c.in-Seeking.is)) c.put_ask_refused.ensures

pub returns-in-Found : goal.returns-in-Found
returns-in-Found c = told c.args.q _ c.in-Found.is c.put_slot.ensures

pub returns-in-AskRefused : goal.returns-in-AskRefused
returns-in-AskRefused c = told c.args.q _ c.in-AskRefused.is c.put_ask_refused-in-AskRefused.ensures

pub returns-in-PlanRefused : goal.returns-in-PlanRefused
returns-in-PlanRefused c = told c.args.q _ c.in-PlanRefused.is c.put_plan_refused.ensures
