-- `regulator::grant::grant_domain` meets its contract: in a state that adds up nothing wraps.
-- Assumes nothing.
use mathlib.Core.Path.{◌≡◌, refl, sym, ap, ◌∙◌}
use mathlib.Core.Bool.{false}
use Prim.Native.Nat.{◌<◌}
use native.Mathlib.Omega.{arith}
use borrow.Author.Rules.{rules}
use Rattle.table.specs.Sums.{nth}
use Rattle.regulator.specs.Grant.{domain_grant}
use Rattle.regulator.proofs.Laws.Adding.{Small, adds, small}
use Rattle.regulator.proofs.Laws.Deciding.{grant_claim, grant_stock, grant_writeback}
use Rattle.regulator.proofs.grant.grant_domain.Goals as goal

pub on_writeback-requires-clause-j_bound_2 : goal.on_writeback-requires-clause-j_bound_2
on_writeback-requires-clause-j_bound_2 c =
    let fits : Small c.args.s c.args.j = small c.args.s (adds c.args.s (search rules)).balanced c.args.j (search rules) in
    omega arith

pub returns-then-writeback : goal.returns-then-writeback
returns-then-writeback c = c.on_writeback.ensures ∙ sym (ap (domain_grant _ _) c.if-writeback.true ∙ grant_writeback _ _ _ refl)

pub on_claim-requires : goal.on_claim-requires
on_claim-requires c =
    let some : 0 < nth c.args.s.claim c.args.j = c.if-s-j-gt0.true in
    let fits : Small c.args.s c.args.j = small c.args.s (adds c.args.s (search rules)).balanced c.args.j (search rules) in
    record { j_bound = search rules; j_nonzero = some; j_bound_2 = omega arith }

pub on_stock-requires : goal.on_stock-requires
on_stock-requires c =
    let stock : c.args.writeback ≡ false → nth c.args.s.claim c.args.j ≡ 0 → 0 < c.args.s.stock = search rules in
    let none : nth c.args.s.claim c.args.j ≡ 0 = omega (arith, c.if-s-j-gt0.false) in
    let fits : Small c.args.s c.args.j = small c.args.s (adds c.args.s (search rules)).balanced c.args.j (search rules) in
    record { j_bound = search rules; stock_nonzero = stock c.if-writeback.false none; j_bound_2 = omega arith }

pub returns-then-s-j-gt0 : goal.returns-then-s-j-gt0
returns-then-s-j-gt0 c =
    let some : 0 < nth c.args.s.claim c.args.j = c.if-s-j-gt0.true in
    c.on_claim.ensures ∙ sym (ap (domain_grant _ _) c.if-writeback.false ∙ grant_claim _ _ some)

pub returns-else-s-j-gt0 : goal.returns-else-s-j-gt0
returns-else-s-j-gt0 c =
    let none : nth c.args.s.claim c.args.j ≡ 0 = omega (arith, c.if-s-j-gt0.false) in
    c.on_stock.ensures ∙ sym (ap (domain_grant _ _) c.if-writeback.false ∙ grant_stock _ _ none)
