-- `cause::explaining::cause_of` meets its contract.
-- Assumes nothing.
use mathlib.Core.Path.{◌≡◌, ap, ap₂, ◌∙◌}
use Prim.Native.Nat.{ℕ, ◌+◌, ◌≤◌}
use native.Mathlib.Omega.{arith}
use lib.ListN.{length}
use mir.Syntax.{w32}
use mir.Val.{SFits}
use mir.Facts.{to_z-of_z}
use borrow.Author.Rules.{rules}
use Rattle.table.specs.Sums.{nth}
use Rattle.regulator.specs.Turn.{verdicts}
use Rattle.regulator.specs.Refusals.{slot_refusal}
use Rattle.cause.specs.Cause.{number, cap, totals, loose_and, cause_from, cause_at}
use Rattle.cause.proofs.Laws.Explaining.{verdicts_length, offers_length, slots_left, granted_is, told_at, told_else}
use Rattle.cause.proofs.explaining.cause_of.Goals as goal

pub bounds-verdicts-number : goal.bounds-verdicts-number
bounds-verdicts-number c =
    let most : c.args.number ≤ 16 = search rules in
    let shown : c.args.verdicts.now ≡ verdicts c.args.s c.args.offers.now = search rules in
    omega (arith, most, ap length shown, verdicts_length c.args.s c.args.offers.now)

pub word_of-requires-clause-offers_len : goal.word_of-requires-clause-offers_len
word_of-requires-clause-offers_len c =
    let taken : slot_refusal c.args.s c.args.offers.now 17 ≡ 0 = search rules in
    offers_length _ _ taken

pub granted-requires : goal.granted-requires
granted-requires c =
    let shown : c.args.verdicts.now ≡ verdicts c.args.s c.args.offers.now = search rules in
    ap length shown ∙ verdicts_length c.args.s c.args.offers.now

pub loose-requires : goal.loose-requires
loose-requires c =
    let taken : slot_refusal c.args.s c.args.offers.now 17 ≡ 0 = search rules in
    slots_left _ _ taken

pub lowest_waiting-requires : goal.lowest_waiting-requires
lowest_waiting-requires c =
    let taken : slot_refusal c.args.s c.args.offers.now 17 ≡ 0 = search rules in
    offers_length _ _ taken

pub returns-in-0 : goal.returns-in-0
unfolding cause_at cause_from
returns-in-0 c =
    let shown : c.args.verdicts.now ≡ verdicts c.args.s c.args.offers.now = search rules in
    told_at c.args.s c.args.offers.now c.args.number c.args.verdicts.now shown 0 c.in-0.is

pub returns-in-1 : goal.returns-in-1
unfolding cause_at cause_from
returns-in-1 c =
    let shown : c.args.verdicts.now ≡ verdicts c.args.s c.args.offers.now = search rules in
    c.word_of.ensures ∙ told_at c.args.s c.args.offers.now c.args.number c.args.verdicts.now shown 1 c.in-1.is

pub returns-in-2 : goal.returns-in-2
unfolding cause_at cause_from
returns-in-2 c =
    let taken : slot_refusal c.args.s c.args.offers.now 17 ≡ 0 = search rules in
    let shown : c.args.verdicts.now ≡ verdicts c.args.s c.args.offers.now = search rules in
    ap number (granted_is c.args.s c.args.offers.now taken c.args.verdicts.now shown c.granted.result c.granted.ensures)
    ∙ told_at c.args.s c.args.offers.now c.args.number c.args.verdicts.now shown 2 c.in-2.is

pub returns-in-3 : goal.returns-in-3
unfolding cause_at cause_from
returns-in-3 c =
    let shown : c.args.verdicts.now ≡ verdicts c.args.s c.args.offers.now = search rules in
    ap (λ (i : ℕ). cap (nth c.args.s.plan.writebackcap i)) c.saturating_sub-j.ensures ∙ told_at c.args.s c.args.offers.now c.args.number c.args.verdicts.now shown 3 c.in-3.is

pub returns-in-4 : goal.returns-in-4
unfolding cause_at cause_from
returns-in-4 c =
    let shown : c.args.verdicts.now ≡ verdicts c.args.s c.args.offers.now = search rules in
    ap (λ (i : ℕ). cap (nth c.args.s.plan.reclaimcap i)) c.saturating_sub-j.ensures ∙ told_at c.args.s c.args.offers.now c.args.number c.args.verdicts.now shown 4 c.in-4.is

pub returns-in-5 : goal.returns-in-5
unfolding cause_at cause_from
returns-in-5 c =
    let shown : c.args.verdicts.now ≡ verdicts c.args.s c.args.offers.now = search rules in
    ap₂ totals c.total.ensures.is c.total-in-5.ensures.is ∙ told_at c.args.s c.args.offers.now c.args.number c.args.verdicts.now shown 5 c.in-5.is

pub returns-in_default : goal.returns-in_default
returns-in_default c =
    let shown : c.args.verdicts.now ≡ verdicts c.args.s c.args.offers.now = search rules in
    let fits : SFits w32 c.loose.result = search rules in
    ap₂ loose_and (to_z-of_z fits ∙ c.loose.ensures) (ap (λ (k : ℕ). k + 1) (c.unwrap_or.ensures ∙ c.lowest_waiting.ensures.lowest))
    ∙ told_else c.args.s c.args.offers.now c.args.number c.args.verdicts.now shown (search rules) (search rules) (search rules) (search rules) (search rules) (search rules)
