-- `edit::adding::check_domain` meets its contract, line by line of the table.
-- Assumes nothing.
use mathlib.Core.Path.{◌≡◌, sym, ◌∙◌}
use Prim.Native.Nat.{◌≤◌}
use native.Mathlib.Omega.{arith}
use lib.ListN.{length}
use borrow.Author.Rules.{rules}
use borrow.Author.Tests.{lt-ltb, le-ltb, ltb-false}
use Rattle.table.proofs.Tables.{miss, hit}
use Rattle.plan.proofs.Laws.Values.{within, above_fits}
use Rattle.edit.proofs.adding.check_domain.Goals as goal

pub returns-then-is_outside : goal.returns-then-is_outside
returns-then-is_outside c = grind (arith, miss, hit)

pub overflow_sub-at : goal.overflow_sub-at
overflow_sub-at c = omega (arith, within 16 _ (sym c.is_outside.ensures ∙ c.if-is_outside.false))

pub bounds-p-at : goal.bounds-p-at
bounds-p-at c =
    let long : length c.args.p.planned ≡ 16 = search rules in
    omega (arith, within 16 _ (sym c.is_outside.ensures ∙ c.if-is_outside.false))

pub returns-then-p-at : goal.returns-then-p-at
returns-then-p-at c = grind (arith, miss, hit)

pub returns-then-any_above : goal.returns-then-any_above
returns-then-any_above c = grind (arith, miss, hit)

pub returns-then-is_above_cap : goal.returns-then-is_above_cap
returns-then-is_above_cap c = grind (arith, miss, hit, lt-ltb, le-ltb)

pub overflow_add-d : goal.overflow_add-d
overflow_add-d c =
    let fits : c.args.p.period ≤ 65535 = search rules in
    omega (arith, above_fits _ _ _ _ (sym c.any_above.ensures ∙ c.if-any_above.false), ltb-false _ _ (sym c.is_above_cap.ensures ∙ c.if-is_above_cap.false))

pub overflow_add-sum : goal.overflow_add-sum
overflow_add-sum c =
    let fits : (c.args.p.period ≤ 65535) × (c.all_reserved.result ≤ 4294967295) = search rules in
    omega (arith, above_fits _ _ _ _ (sym c.any_above.ensures ∙ c.if-any_above.false), ltb-false _ _ (sym c.is_above_cap.ensures ∙ c.if-is_above_cap.false))

pub returns-then-period-sum : goal.returns-then-period-sum
returns-then-period-sum c = grind (arith, miss, hit, lt-ltb, le-ltb)

pub returns : goal.returns
returns c = grind (arith, miss, hit, lt-ltb, le-ltb)
