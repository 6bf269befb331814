-- `regulator::refusals::check_slot` meets its contract: 34, and then the offers' lines.
-- Assumes nothing.
use mathlib.Core.Path.{◌≡◌, sym, ◌∙◌}
use mathlib.Core.Bool.{true}
use Rattle.regulator.specs.State.{adds_up}
use Rattle.regulator.proofs.Laws.Refusing.{slot_full, slot_on}
use borrow.Author.Rules.{rules}
use Rattle.regulator.proofs.refusals.check_slot.Goals as goal

pub returns-then-s-eq4294967295 : goal.returns-then-s-eq4294967295
returns-then-s-eq4294967295 c =
    let sound : adds_up c.args.s ≡ true = search rules in
    sym (slot_full c.args.s c.args.offers.now c.args.room sound c.if-s-eq4294967295.true)

pub returns : goal.returns
returns c =
    let sound : adds_up c.args.s ≡ true = search rules in
    c.check_offers.ensures ∙ sym (slot_on c.args.s c.args.offers.now c.args.room sound c.if-s-eq4294967295.false)
