-- `cause::explaining::explain` meets its contract.
-- Assumes nothing.
use mathlib.Core.Path.{◌≡◌, sym, ap, ap₂, ◌∙◌}
use mathlib.Core.Bool.{false}
use mathlib.Core.List.{List}
use Prim.Native.Nat.{ℕ}
use native.Mathlib.Omega.{arith}
use Rattle.std.proofs.lemmas.Result.{err_from_is_err_and}
use Rattle.table.specs.Sums.{nth}
use Rattle.regulator.specs.Turn.{verdicts}
use Rattle.regulator.specs.Refusals.{slot_number, slot_refusal}
use Rattle.regulator.specs.Close.{Answer}
use Rattle.regulator.proofs.Laws.Deciding.{slot_number as number_told, shown_decided}
use Rattle.regulator.proofs.Laws.Telling.{slot_numbered, slot_taken_by}
use Rattle.cause.specs.Cause.{Cause, none}
use Rattle.cause.specs.Explaining.{no_number, Explanation}
use Rattle.cause.proofs.Laws.Explaining.{number_most, explain_slot, explain_number, explain_told}
use Rattle.cause.proofs.explaining.explain.Goals as goal

pub returns-in_err-slot : goal.returns-in_err-slot
returns-in_err-slot c =
    let p = err_from_is_err_and c.from_residual.result c.from_residual.ensures.1 in
    let fault = c.in_err-slot.field-0.0 in
    let told : slot_number fault ≡ slot_refusal c.args.s c.args.offers.now 17 = ap (λ (x : Answer). x.refused) c.in_err-slot.ensures.answer ∙ number_told _ _ _ in
    rw (p.1, p.2) (ap (λ (n : ℕ). record { refused = n; verdict = 0; cause = none }) told ∙ sym (explain_slot _ _ _ (λ z. slot_numbered fault (told ∙ z))))

pub returns-then-is_no_number : goal.returns-then-is_no_number
returns-then-is_no_number c =
    let clear : slot_refusal c.args.s c.args.offers.now 17 ≡ 0 = slot_taken_by c.args.s c.args.offers.now 17 c.in_ok-slot.field-0 c.in_ok-slot.ensures.answer in
    sym (explain_number _ _ _ clear (sym c.is_no_number.ensures ∙ c.if-is_no_number.true))

pub cause_of-cause-requires : goal.cause_of-cause-requires
cause_of-cause-requires c =
    let clear : slot_refusal c.args.s c.args.offers.now 17 ≡ 0 = slot_taken_by c.args.s c.args.offers.now 17 c.in_ok-slot.field-0 c.in_ok-slot.ensures.answer in
    let shown : c.slot.new.verdicts ≡ verdicts c.args.s c.args.offers.now = c.in_ok-slot.ensures.shown ∙ shown_decided _ _ _ clear in
    let named : no_number c.args.s.plan c.args.number ≡ false = sym c.is_no_number.ensures ∙ c.if-is_no_number.false in
    record { offers_value = clear; verdicts_value = shown; number_bound = number_most c.args.s c.args.number named }

pub bounds-verdicts-n : goal.bounds-verdicts-n
bounds-verdicts-n c =
    let named : no_number c.args.s.plan c.args.number ≡ false = sym c.is_no_number.ensures ∙ c.if-is_no_number.false in
    omega (arith, number_most c.args.s c.args.number named)

pub returns : goal.returns
returns c =
    let clear : slot_refusal c.args.s c.args.offers.now 17 ≡ 0 = slot_taken_by c.args.s c.args.offers.now 17 c.in_ok-slot.field-0 c.in_ok-slot.ensures.answer in
    let shown : c.slot.new.verdicts ≡ verdicts c.args.s c.args.offers.now = c.in_ok-slot.ensures.shown ∙ shown_decided _ _ _ clear in
    let named : no_number c.args.s.plan c.args.number ≡ false = sym c.is_no_number.ensures ∙ c.if-is_no_number.false in
    let told : List ℕ → Cause → Explanation = λ v t. record { refused = 0; verdict = nth v c.args.number; cause = t } in
    ap₂ told shown c.cause_of-cause.ensures ∙ sym (explain_told _ _ _ clear named)
