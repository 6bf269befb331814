-- `regulator::grant::grant_number` meets its contract.
-- Assumes nothing.
use mathlib.Core.Path.{◌≡◌, sym, ap, ◌∙◌}
use mathlib.Core.Logic.{◌≢◌}
use Prim.Native.Nat.{ℕ, ◌+◌, ◌-◌, ◌<◌}
use native.Mathlib.Omega.{arith}
use lib.Dec.{eqb}
use borrow.Author.Tests.{eqb-false}
use Rattle.table.specs.Sums.{nth}
use Rattle.regulator.specs.Grant.{domain_grant, grant}
use Rattle.regulator.proofs.Laws.Adding.{Adds, adds}
use Rattle.regulator.proofs.Laws.Deciding.{grant_none, grant_best, grant_domain}
use borrow.Author.Rules.{rules}
use Rattle.regulator.proofs.grant.grant_number.Goals as goal

pub overflow_add-s : goal.overflow_add-s
overflow_add-s c =
    let sound : Adds c.args.s = adds c.args.s (search rules) in
    let a = sound in
    omega (arith, a.below, a.balanced.spent, a.balanced.plan.small)

pub returns-then-n-eq17 : goal.returns-then-n-eq17
returns-then-n-eq17 c =
    let a = c.args in
    c.on_neither.ensures ∙ sym (ap (grant a.s a.offers.now) c.if-n-eq17.true ∙ grant_none a.s a.offers.now)

pub overflow_add-s-then-n-eq0 : goal.overflow_add-s-then-n-eq0
overflow_add-s-then-n-eq0 c =
    let sound : Adds c.args.s = adds c.args.s (search rules) in
    let a = sound in
    omega (arith, a.below, a.balanced.spent, a.balanced.plan.small)

pub returns-then-n-eq0 : goal.returns-then-n-eq0
returns-then-n-eq0 c =
    let a = c.args in
    c.on_neither-then-n-eq0.ensures ∙ sym (ap (grant a.s a.offers.now) c.if-n-eq0.true ∙ grant_best a.s a.offers.now)

pub grant_domain-requires : goal.grant_domain-requires
grant_domain-requires c =
    let stock : 0 < c.args.n → c.args.n < 17 → nth c.args.offers.now c.args.n ≢ 2 → nth c.args.s.claim (c.args.n - 1) ≡ 0 → 0 < c.args.s.stock = search rules in
    record { j_bound = omega arith; s_value = search rules; stock_nonzero = λ w. stock (omega arith) (omega arith) (eqb-false _ 2 w) }

pub returns : goal.returns
returns c =
    let a = c.args in
    let s = c.args.s in
    let o = c.args.offers.now in
    let q : a.n - 1 + 1 ≡ a.n = omega arith in
    c.grant_domain.ensures
    ∙ sym (ap (grant s o) (sym q) ∙ grant_domain s o (a.n - 1) (omega arith) ∙ ap (λ (m : ℕ). domain_grant s (a.n - 1) (eqb (nth o m) 2)) q)
