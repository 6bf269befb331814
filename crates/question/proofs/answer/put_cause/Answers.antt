-- `question::answer::put_cause` meets its contract: a text for each case.
-- Assumes nothing.
use Rattle.script.proofs.Laws.Putting.{puts_none, puts_field}
use Rattle.question.specs.Answer.{cause_text}
use mir.Syntax.{w32}
use mir.Val.{SFits}
use mir.Facts.{to_z-of_z}
use borrow.Author.Rules.{rules}
use Rattle.question.proofs.answer.put_cause.Goals as goal

pub returns-in-Nothing : goal.returns-in-Nothing
unfolding cause_text
returns-in-Nothing c = rw c.in-Nothing.is (puts_none _)

pub returns-in-Claim : goal.returns-in-Claim
unfolding cause_text
returns-in-Claim c = rw c.in-Claim.is c.put_bytes.ensures

pub returns-in-Stock : goal.returns-in-Stock
unfolding cause_text
returns-in-Stock c = rw c.in-Stock.is c.put_bytes-in-Stock.ensures

pub returns-in-Neither : goal.returns-in-Neither
unfolding cause_text
returns-in-Neither c = rw c.in-Neither.is c.put_bytes-in-Neither.ensures

pub returns-in-Granted : goal.returns-in-Granted
unfolding cause_text
returns-in-Granted c = rw c.in-Granted.is c.put_field.ensures

pub returns-in-Cap : goal.returns-in-Cap
unfolding cause_text
returns-in-Cap c = rw c.in-Cap.is (puts_field c.from.ensures c.put_field-in-Cap.ensures)

pub returns-in-Totals : goal.returns-in-Totals
unfolding cause_text
returns-in-Totals c = rw c.in-Totals.is c.put_totals.ensures

pub returns-in-Blocked : goal.returns-in-Blocked
unfolding cause_text
returns-in-Blocked c =
    let fits : SFits w32 c.in-Blocked.loose = search rules in
    rw c.in-Blocked.is (rw (to_z-of_z fits) at c.put_blocked.ensures)
