-- `regulator::turn::pick` meets its contract: what is left to ask gives what all give, and the number at hand is as far from the turn as
-- numbers were asked.
-- Assumes nothing.
use mathlib.Core.Path.{refl, sym, ap, ◌∙◌}
use mathlib.Core.Bool.{Bool}
use Prim.Native.Nat.{ℕ, ◌-◌, ◌≤◌}
use native.Mathlib.Omega.{arith}
use borrow.Author.Rules.{rules}
use borrow.Author.Tests.{eq-eqb, ne_eqb}
use lib.Dec.{eqb}
use Rattle.table.specs.Sums.{nth}
use Rattle.table.proofs.Tables.{miss}
use Rattle.regulator.specs.Turn.{ask}
use Rattle.regulator.proofs.Laws.Asking.{after_is, ask_none, ask_here, ask_on}
use Rattle.regulator.proofs.turn.pick.Goals as goal

pub loop-left-init : goal.loop-left-init
loop-left-init c =
    let starts : c.args.turn ≤ 16 = search rules in
    (search rules, search rules, refl, omega (arith, starts))

pub loop-left-preserved : goal.loop-left-preserved
loop-left-preserved c =
    let f : ℕ → Bool = λ k. eqb (nth c.args.rulings.now k) 2 in
    let next = c.next_number-n.ensures in
    let e = ne_eqb _ 2 c.if-rulings-n-eq2.false in (
      next.1,
      omega arith,
      ap (λ (m : ℕ). ask f m (c.loop-left.left - 1)) next.0 ∙ sym (ask_on f c.loop-left.n c.loop-left.left c.if-left-eq0.false e) ∙ c.loop-left.invariant.2,
      omega (arith, next.0, after_is c.loop-left.n c.loop-left.invariant.0, c.loop-left.invariant.1, c.loop-left.invariant.3, c.if-left-eq0.false),
    )

pub returns-then-left-eq0-clause-number : goal.returns-then-left-eq0-clause-number
returns-then-left-eq0-clause-number c =
    sym (ask_none _ c.loop-left.n c.loop-left.left c.if-left-eq0.true) ∙ c.loop-left.invariant.2

pub returns-then-left-eq0-clause-steps : goal.returns-then-left-eq0-clause-steps
returns-then-left-eq0-clause-steps c = refl

pub returns-then-rulings-n-eq2-clause-number : goal.returns-then-rulings-n-eq2-clause-number
returns-then-rulings-n-eq2-clause-number c =
    let l = c.loop-left in
    let some = c.if-left-eq0.false in
    sym (ask_here _ l.n l.left some (eq-eqb _ 2 c.if-rulings-n-eq2.true)) ∙ l.invariant.2

pub returns-then-rulings-n-eq2-clause-steps : goal.returns-then-rulings-n-eq2-clause-steps
returns-then-rulings-n-eq2-clause-steps c =
    let l = c.loop-left in
    let some = c.if-left-eq0.false in
    sym (miss _ _ _ (ne_eqb l.n 17 (λ z. omega (arith, l.invariant.0))) ∙ omega (arith, l.invariant.1, l.invariant.3, some))
