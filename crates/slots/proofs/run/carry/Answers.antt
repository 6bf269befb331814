-- `slots::run::carry` meets its contract.
-- Assumes nothing.
use mathlib.Core.Path.{sym, ap, subst}
use native.Mathlib.Omega.{arith}
use borrow.Author.Rules.{rules}
use Rattle.regulator.specs.declared.state.State.{State}
use Rattle.regulator.proofs.Laws.Adding.{adds}
use Rattle.regulator.proofs.Laws.Keeping.{Kept as Sound}
use Rattle.kept.proofs.Laws.Readying.{sound_state}
use Rattle.slots.proofs.run.carry.Goals as goal

pub loaded-numbers-requires : goal.loaded-numbers-requires
loaded-numbers-requires c =
    let sound : Sound c.args.s = sound_state c.args.s (search rules) c.requires.s_value in
    (sound).balanced.turn

pub run-ran-requires-clause-sound : goal.run-ran-requires-clause-sound
run-ran-requires-clause-sound c =
    let sound : Sound c.args.s = sound_state c.args.s (search rules) c.requires.s_value in
    let e = c.loaded-numbers.ensures.state in
    rw c.of-tables.ensures
    (subst Sound (sym e) sound, omega (arith, (adds c.args.s c.requires.s_value).below, ap (λ (y : State). y.decided) e))
