-- `regulator::calls::grant_slot` meets its contract.
-- Assumes nothing.
use mathlib.Core.Path.{◌≡◌, sym, ap, ap₂, subst, ◌∙◌}
use Prim.Native.Nat.{ℕ, ◌≤◌}
use native.Mathlib.Omega.{arith}
use Rattle.table.specs.Sums.{sum}
use Rattle.plan.specs.declared.value.Plan.{Plan}
use Rattle.regulator.specs.Turn.{granted, steps_of}
use Rattle.regulator.specs.Grant.{grant, onward}
use Rattle.regulator.specs.Close.{next_plan, ended}
use Rattle.regulator.specs.Calls.{one_slot}
use Rattle.regulator.specs.declared.state.State.{State}
use Rattle.regulator.proofs.Laws.Adding.{Adds, adds, next_fits}
use Rattle.regulator.proofs.Laws.Refusing.{SlotTaken, slot_taken}
use Rattle.regulator.proofs.Laws.Ruling.{Granted, granted_most, steps_most, granted_to, stock_there}
use Rattle.regulator.proofs.Laws.Deciding.{grant_time}
use borrow.Author.Rules.{rules}
use Rattle.regulator.proofs.calls.grant_slot.Goals as goal

pub grant_number-t-requires : goal.grant_number-t-requires
grant_number-t-requires c =
    let number_is : c.args.number ≡ granted c.args.s c.args.offers.now = search rules in
    let taken : SlotTaken c.args.s c.args.offers.now 17 = slot_taken c.args.s c.args.offers.now 17 (search rules) in
    let sound : Adds c.args.s = adds c.args.s taken.adds in
    let most : c.args.number ≤ 17 = subst (λ (n : ℕ). n ≤ 17) (sym number_is) (granted_most c.args.s c.args.offers.now sound.balanced.turn) in
    let s = c.args.s in
    let o = c.args.offers.now in
    let to = subst (Granted s o) (sym number_is) (granted_to s o sound.balanced.turn) in
    record { n_bound = most; offers_len = taken.offered.offers_long; s_value = taken.adds; stock_nonzero = stock_there s o c.args.number to }

pub go_on-next-requires : goal.go_on-next-requires
go_on-next-requires c =
    let taken : SlotTaken c.args.s c.args.offers.now 17 = slot_taken c.args.s c.args.offers.now 17 (search rules) in
    let sound : Adds c.args.s = adds c.args.s taken.adds in
    let number_is : c.args.number ≡ granted c.args.s c.args.offers.now = search rules in
    let most : c.args.number ≤ 17 = subst (λ (n : ℕ). n ≤ 17) (sym number_is) (granted_most c.args.s c.args.offers.now sound.balanced.turn) in
    let steps_are : c.args.steps ≡ steps_of c.args.s c.args.offers.now = search rules in
    let s = c.args.s in
    let o = c.args.offers.now in
    let b = sound.balanced in
    let same = grant_time s o c.args.number in
    let e = ap (λ (u : State). u.decided) c.grant_number-t.ensures in
    let f = ap (λ (u : State). u.steps) c.grant_number-t.ensures in
    record {
      n_bound = most;
      decided_bound = omega (arith, same.0, e, sound.below, b.plan.small);
      steps_bound = omega (arith, same.2, f, steps_are, steps_most s o b.turn, b.steps.high, b.spent, sound.below, b.plan.small);
    }

pub end-requires-clause-closed_bound : goal.end-requires-clause-closed_bound
end-requires-clause-closed_bound c =
    let taken : SlotTaken c.args.s c.args.offers.now 17 = slot_taken c.args.s c.args.offers.now 17 (search rules) in
    let full : c.args.s.closed ≤ 4294967295 = search rules in
    let same = grant_time c.args.s c.args.offers.now c.args.number in
    let e = ap (λ (u : State). u.closed) c.go_on-next.ensures in
    let f = ap (λ (u : State). u.closed) c.grant_number-t.ensures in
    let next = ap next_plan c.go_on-next.ensures ∙ ap next_plan c.grant_number-t.ensures ∙ same.3 in
    omega (arith, same.1, e, f, taken.unfilled, full)

pub end-requires-clause-s_bound : goal.end-requires-clause-s_bound
end-requires-clause-s_bound c =
    let taken : SlotTaken c.args.s c.args.offers.now 17 = slot_taken c.args.s c.args.offers.now 17 (search rules) in
    let sound : Adds c.args.s = adds c.args.s taken.adds in
    let same = grant_time c.args.s c.args.offers.now c.args.number in
    let e = ap (λ (u : State). u.closed) c.go_on-next.ensures in
    let f = ap (λ (u : State). u.closed) c.grant_number-t.ensures in
    let next = ap next_plan c.go_on-next.ensures ∙ ap next_plan c.grant_number-t.ensures ∙ same.3 in
    omega (arith, ap (λ (p : Plan). sum p.reservation) next, next_fits c.args.s sound.balanced)

pub returns : goal.returns
unfolding one_slot
returns c =
    let number_is : c.args.number ≡ granted c.args.s c.args.offers.now = search rules in
    let steps_are : c.args.steps ≡ steps_of c.args.s c.args.offers.now = search rules in
    let s = c.args.s in
    let o = c.args.offers.now in
    c.end.ensures
    ∙ ap₂ ended
    (c.go_on-next.ensures
    ∙ ap (λ (u : State). onward u c.args.number c.args.steps) c.grant_number-t.ensures
    ∙ ap₂ (λ (n k : ℕ). onward (grant s o n) n k) number_is steps_are)
    steps_are
