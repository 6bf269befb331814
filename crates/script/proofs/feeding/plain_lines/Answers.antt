-- `script::feeding::plain_lines` meets its contract.
-- Assumes nothing.
use mathlib.Core.Path.{refl}
use Prim.Native.Nat.{◌<◌}
use native.Mathlib.Omega.{arith}
use Rattle.regulator.specs.State.{Shaped}
use Rattle.script.proofs.Laws.Feeding.{line_small}
use Rattle.script.proofs.Laws.Plain.{fed_plain}
use borrow.Author.Rules.{rules}
use Rattle.script.proofs.feeding.plain_lines.Goals as goal

pub carry-c-requires-clause-from_in_bounds : goal.carry-c-requires-clause-from_in_bounds
carry-c-requires-clause-from_in_bounds c =
    let p = c.requires in
    p.used_in_bounds

pub carry-c-requires-clause-s_value : goal.carry-c-requires-clause-s_value
carry-c-requires-clause-s_value c =
    let p = c.requires in
    p.sound.adds p.refused_value

pub overflow_add-result : goal.overflow_add-result
overflow_add-result c =
    let shape : Shaped c.args.r.state = search rules in
    let small : c.args.r.line < 1000000000000000000 = line_small c.args.r c.requires.sound c.requires.refused_value shape (search rules) in
    omega (arith, small, c.carry-c.ensures.within, c.well_formed.1.0)

pub returns-clause-by_index : goal.returns-clause-by_index
returns-clause-by_index c =
    let shape : Shaped c.args.r.state = search rules in
    let a = c.args in
    let q = c.carry-c.result in
    λ room b. fed_plain a.part.now room b a.r c.requires.refused_value c.requires.sound shape q.state q.at c.carry-c.ensures

pub returns-clause-refused_value_2 : goal.returns-clause-refused_value_2
returns-clause-refused_value_2 c = (refl, omega (arith, c.carry-c.ensures.place))
