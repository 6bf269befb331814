-- `regulator::verdict::rule` meets its contract: the buffer is filled with the rulings from the front.
-- Assumes nothing.
use mathlib.Core.Path.{◌≡◌, subst, ◌∙◌}
use Prim.Native.Nat.{ℕ, ◌+◌}
use native.Mathlib.Omega.{arith}
use borrow.Author.Rules.{rules}
use lib.ListN.{length, take, length-set}
use Rattle.table.specs.Ranges.{values_below}
use Rattle.table.proofs.Filling.{filled_none, filled_more, filled_all}
use Rattle.regulator.specs.Verdict.{blocked as blocked_in, ruling_of}
use Rattle.regulator.proofs.Laws.Ruling.{best_ruled, domain_ruled}
use Rattle.regulator.proofs.verdict.rule.Goals as goal

pub loop-j-init : goal.loop-j-init
loop-j-init c =
    let told : c.args.blocked ≡ blocked_in c.args.s c.args.offers.now = search rules in
    let long : length c.args.verdicts.now ≡ 17 = search rules in
    let best : (let a = c.args in c.number.result ≡ ruling_of a.s a.offers.now 0) = c.number.ensures ∙ c.rule_best.ensures ∙ best_ruled c.args.s c.args.offers.now c.args.blocked told in
    let v = c.args.verdicts.now in
    let f = ruling_of c.args.s c.args.offers.now in (
      told,
      length-set v 0 c.number.result ∙ long,
      filled_more f v 0 c.number.result (omega (arith, long)) (filled_none f v) best,
    )

pub loop-j-preserved : goal.loop-j-preserved
loop-j-preserved c =
    let a = c.args in
    let v = c.loop-j.verdicts in
    let j = c.loop-j.j in
    let domain : c.number-in-loop-j.result ≡ ruling_of a.s a.offers.now (j + 1) = c.number-in-loop-j.ensures ∙ c.rule_domain.ensures ∙ domain_ruled a.s a.offers.now a.blocked c.loop-j.invariant.0 j in (
      c.loop-j.invariant.0,
      length-set v (j + 1) c.number-in-loop-j.result ∙ c.loop-j.invariant.1,
      filled_more (ruling_of a.s a.offers.now) v (j + 1) c.number-in-loop-j.result (omega arith) c.loop-j.invariant.2 domain,
    )

pub returns : goal.returns
returns c =
    let a = c.args in
    let f = ruling_of a.s a.offers.now in
    let all : c.loop-j.j ≡ 16 = omega arith in
    filled_all f c.loop-j.verdicts 17 c.loop-j.invariant.1 (subst (λ (j : ℕ). take (j + 1) c.loop-j.verdicts ≡ values_below f (j + 1)) all c.loop-j.invariant.2)
