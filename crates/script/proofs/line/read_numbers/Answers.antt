-- `script::line::read_numbers` meets its contract: its two parts are those before and behind the first space.
-- Assumes nothing.
use mathlib.Core.Path.{sym, ◌∙◌}
use Rattle.script.proofs.Laws.Reading.{numbers_unspaced, first_unwritten, second_unwritten, numbers_found}
use Rattle.script.proofs.line.read_numbers.Goals as goal

pub returns-in_err-space : goal.returns-in_err-space
returns-in_err-space c =
    let a = c.args in
    c.from_residual.ensures ∙ sym (numbers_unspaced a.most a.more a.bytes.now (sym c.place_of.ensures ∙ c.in_err-space.was))

pub returns-in_err-first : goal.returns-in_err-first
returns-in_err-first c =
    let a = c.args in
    let s = sym c.place_of.ensures ∙ c.in_ok-space.was in
    c.from_residual-in_err-first.ensures
    ∙ sym (first_unwritten a.most a.more a.bytes.now c.in_ok-space.space s (sym c.read_number.ensures ∙ c.in_err-first.was))

pub returns-in_err-second : goal.returns-in_err-second
returns-in_err-second c =
    let a = c.args in
    let s = sym c.place_of.ensures ∙ c.in_ok-space.was in
    c.from_residual-in_err-second.ensures
    ∙ sym (second_unwritten a.most a.more a.bytes.now c.in_ok-space.space s (sym c.read_number-2.ensures ∙ c.in_err-second.was))

pub returns : goal.returns
returns c =
    let a = c.args in
    let s = sym c.place_of.ensures ∙ c.in_ok-space.was in
    sym (numbers_found a.most a.more a.bytes.now c.in_ok-space.space s c.in_ok-first.first c.in_ok-second.second
    (sym c.read_number.ensures ∙ c.in_ok-first.was) (sym c.read_number-2.ensures ∙ c.in_ok-second.was))
