-- `regulator::refusals::check_hand_in` meets its contract.
-- Assumes nothing.
use mathlib.Core.Path.{◌≡◌, sym, ◌∙◌}
use mathlib.Core.Bool.{true}
use Rattle.std.proofs.lemmas.Result.{err_from_is_err_and}
use Rattle.regulator.specs.State.{adds_up}
use Rattle.regulator.proofs.Laws.Refusing.{hand_full, hand_on}
use borrow.Author.Rules.{rules}
use Rattle.regulator.proofs.refusals.check_hand_in.Goals as goal

pub returns-then-s-eq4294967295 : goal.returns-then-s-eq4294967295
returns-then-s-eq4294967295 c =
    let sound : adds_up c.args.s ≡ true = search rules in
    sym (hand_full c.args.s c.args.p sound c.if-s-eq4294967295.true)

pub returns-in_err-check : goal.returns-in_err-check
returns-in_err-check c =
    let sound : adds_up c.args.s ≡ true = search rules in
    let p = err_from_is_err_and c.from_residual.result c.from_residual.ensures.1 in
    rw (p.1, p.2) (c.in_err-check.ensures ∙ sym (hand_on c.args.s c.args.p sound c.if-s-eq4294967295.false))

pub returns : goal.returns
returns c =
    let sound : adds_up c.args.s ≡ true = search rules in
    c.in_ok-check.ensures ∙ sym (hand_on c.args.s c.args.p sound c.if-s-eq4294967295.false)
