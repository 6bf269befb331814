-- `script::line::read_slot` meets its contract.
-- Assumes nothing.
use mathlib.Core.Path.{◌≡◌, sym, ap, ◌∙◌}
use mathlib.Core.Bool.{false}
use Rattle.table.proofs.Tables.{miss, hit}
use Rattle.script.specs.Line.{slot_line, is_slot, offers_of}
use Rattle.script.proofs.Laws.Reading.{slot_is, slot_short, slot_other, slot_good, slot_bad}
use Rattle.script.proofs.line.read_slot.Goals as goal
use Rattle.script.proofs.line.read_slot.Goals.{then-rest-ne17-via-then-rest-ne17, then-rest-ne17-via-else-rest-ne17+then-not-digits_only}

-- a line that is too short or too long, or that has another byte than digits
no_slot : (c : goal.Joined-then-rest-ne17) → is_slot c.args.rest.now ≡ false
no_slot c =
    elim c.then-rest-ne17.branch [
      | then-rest-ne17-via-then-rest-ne17 w ↦ slot_short c.args.rest.now w.if-rest-ne17.true
      | then-rest-ne17-via-else-rest-ne17+then-not-digits_only w ↦ slot_other c.args.rest.now (sym w.digits_only.ensures ∙ w.if-not-digits_only.true)
    ]

pub returns-then-rest-ne17-clause-told : goal.returns-then-rest-ne17-clause-told
returns-then-rest-ne17-clause-told c = sym (slot_bad c.args.rest.now (no_slot c))

pub returns-then-rest-ne17-clause-offers : goal.returns-then-rest-ne17-clause-offers
returns-then-rest-ne17-clause-offers c =
    let l = c.args.rest.now in
    sym (miss (is_slot l) (offers_of l) _ (no_slot c))

pub returns-clause-told : goal.returns-clause-told
returns-clause-told c =
    let l = c.args.rest.now in
    let e = slot_is l c.if-rest-ne17.false (sym c.digits_only.ensures ∙ c.if-not-digits_only.false) in
    ap slot_line c.copy_offers.ensures ∙ sym (slot_good l e)

pub returns-clause-offers : goal.returns-clause-offers
returns-clause-offers c =
    let l = c.args.rest.now in
    let e = slot_is l c.if-rest-ne17.false (sym c.digits_only.ensures ∙ c.if-not-digits_only.false) in
    c.copy_offers.ensures ∙ sym (hit (is_slot l) (offers_of l) _ e)
