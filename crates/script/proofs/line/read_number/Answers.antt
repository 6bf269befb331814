-- `script::line::read_number` meets its contract.
-- Assumes nothing.
use mathlib.Core.Path.{sym, ap, ◌∙◌}
use native.Mathlib.Omega.{arith}
use Rattle.std.specs.Prelude.{Some}
use Rattle.script.proofs.Laws.Reading.{number_is, number_written, no_number}
use Rattle.script.proofs.line.read_number.Goals as goal

pub returns-then-not-is_number : goal.returns-then-not-is_number
returns-then-not-is_number c = sym (no_number _ _ (sym c.is_number.ensures ∙ c.if-not-is_number.true))

pub value-requires : goal.value-requires
value-requires c =
    let n = number_is _ _ (sym c.is_number.ensures ∙ c.if-not-is_number.false) in
    record { part_len_bound = omega (arith, n.1, c.requires); part_value = n.2 }

pub returns : goal.returns
returns c = ap Some c.value.ensures ∙ sym (number_written _ _ (sym c.is_number.ensures ∙ c.if-not-is_number.false))
