-- `engine::turn::pick` meets its contract.
-- Assumes nothing.
use mathlib.Core.Path.{sym}
use native.Mathlib.Omega.{arith}
use lib.Count.{count_trailing_zeros}
use borrow.Author.Tests.{eq-eqb}
use Rattle.table.proofs.Tables.{hit}
use Rattle.engine.proofs.Laws.Lowest.{exact, none_is, Chosen, chosen, picked_of_lem}
use Rattle.engine.proofs.turn.pick.Goals as goal

pub returns-then-passing-eq0 : goal.returns-then-passing-eq0
returns-then-passing-eq0 c =
    picked_of_lem c.args.passing c.args.turn 17 17
    (sym (none_is c.args.passing c.args.turn c.requires.turn_bound c.requires.passing_bound c.if-passing-eq0.true))
    (sym (hit _ _ _ (eq-eqb _ 17 (none_is c.args.passing c.args.turn c.requires.turn_bound c.requires.passing_bound c.if-passing-eq0.true))))

-- the number and the steps as the code has them
told : (c : goal.After-round)
    → Chosen c.args.passing c.args.turn c.requires.turn_bound c.requires.passing_bound (count_trailing_zeros 32 c.first_mask-number.result) c.round.result
told c =
    let m = c.args.passing in
    let t = c.args.turn in
    let p = c.requires in
    chosen m t p.turn_bound p.passing_bound c.if-passing-eq0.false _ _ _ (exact m t p.turn_bound p.passing_bound) c.first_mask-number.ensures c.round.ensures

pub overflow_add-result : goal.overflow_add-result
overflow_add-result c = let k = told c in record { fits = omega (arith, k.most, k.added) }

pub overflow_sub-result : goal.overflow_sub-result
overflow_sub-result c = (told c).enough

pub returns : goal.returns
returns c = picked_of_lem c.args.passing c.args.turn _ _ (told c).number (told c).steps
