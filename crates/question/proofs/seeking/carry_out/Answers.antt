-- `question::seeking::carry_out` meets its contract: the case that the reader answers is the line's meaning.
-- Assumes nothing.
use mathlib.Core.Path.{◌≡◌, sym, ap, ◌∙◌}
use Rattle.script.specs.Line.{Meaning, meaning_of, told}
use Rattle.script.specs.declared.line.Line.{Line}
use Rattle.question.specs.Inner.{search_after}
use Rattle.question.proofs.Laws.Searching.{bad_over}
use Rattle.question.proofs.seeking.carry_out.Goals as goal

pub returns-in-Slot : goal.returns-in-Slot
returns-in-Slot c =
    let read : (l : Line) → c.read_line.result ≡ l → told l c.read_line.new.offers ≡ meaning_of c.args.line.now = λ (l : Line) (e : c.read_line.result ≡ l). ap (λ (x : Line). told x c.read_line.new.offers) (sym e) ∙ c.read_line.ensures.told in
    let a = c.args in
    c.slot_line.ensures ∙ ap (λ (m : Meaning). search_after a.q m a.next) (read _ c.in-Slot.is)

pub returns-in-Yield : goal.returns-in-Yield
returns-in-Yield c =
    let read : (l : Line) → c.read_line.result ≡ l → told l c.read_line.new.offers ≡ meaning_of c.args.line.now = λ (l : Line) (e : c.read_line.result ≡ l). ap (λ (x : Line). told x c.read_line.new.offers) (sym e) ∙ c.read_line.ensures.told in
    let a = c.args in
    c.yield_line.ensures ∙ ap (λ (m : Meaning). search_after a.q m a.next) (read _ c.in-Yield.is)

pub returns-in-Bad : goal.returns-in-Bad
returns-in-Bad c =
    let read : (l : Line) → c.read_line.result ≡ l → told l c.read_line.new.offers ≡ meaning_of c.args.line.now = λ (l : Line) (e : c.read_line.result ≡ l). ap (λ (x : Line). told x c.read_line.new.offers) (sym e) ∙ c.read_line.ensures.told in
    let a = c.args in
    c.over.ensures
    ∙ sym (bad_over a.q _ a.next)
    ∙ ap (λ (m : Meaning). search_after a.q m a.next) (read _ c.in-Bad.is)
