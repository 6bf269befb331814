-- `plan::writing::list_domains` meets its contract: the domains of the numbers passed are listed.
-- Assumes nothing.
use mathlib.Core.Path.{◌≡◌, subst}
use Prim.Native.Nat.{ℕ}
use native.Mathlib.Omega.{arith}
use borrow.Author.Rules.{rules}
use lib.ListN.{length-set}
use Rattle.plan.specs.Writing.{Lists}
use Rattle.plan.proofs.Laws.Listing.{lists_none, lists_skip, lists_more}
use Rattle.plan.proofs.writing.list_domains.Goals as goal

pub loop-j-init : goal.loop-j-init
loop-j-init c = (search rules, search rules, lists_none c.args.p _)

pub loop-j-preserved-then-not-p-j : goal.loop-j-preserved-then-not-p-j
loop-j-preserved-then-not-p-j c =
    (omega arith, c.loop-j.invariant.1, lists_skip c.args.p c.loop-j.j _ _ c.loop-j.invariant.2 c.if-not-p-j.true)

pub bounds-domains-count : goal.bounds-domains-count
bounds-domains-count c = omega (arith, c.loop-j.invariant.1, c.loop-j.invariant.2.few)

pub overflow_add-count : goal.overflow_add-count
overflow_add-count c = omega (arith, c.loop-j.invariant.2.few)

pub loop-j-preserved : goal.loop-j-preserved
loop-j-preserved c = (
  omega arith,
  simp length-set c.loop-j.invariant.1,
  lists_more c.args.p c.loop-j.j _ _ c.loop-j.invariant.2 c.if-not-p-j.false (omega (arith, c.loop-j.invariant.1, c.loop-j.invariant.2.few)),
)

pub returns : goal.returns
returns c =
    let all : c.loop-j.j ≡ 16 = omega arith in
    subst (λ (j : ℕ). Lists c.args.p j c.loop-j.count c.loop-j.domains) all c.loop-j.invariant.2
