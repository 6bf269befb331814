-- `table::sums::total` meets its contract.
use Rattle.std.proofs.Common.{◌≡◌, ℕ, List, refl, length, ◌*◌, ◌≤◌, rules, arith}
use Rattle.std.specs.List.{sum_by}
use Rattle.std.proofs.lemmas.List.Recursion.{is_sum_by}
use Rattle.std.proofs.lemmas.List.Sums.{sum_by-le}
use Rattle.std.proofs.iter.runs.Sources.{sums}
use Rattle.table.specs.Sums.{sum}
use Rattle.table.proofs.sums.total.Goals as goal

plain : (l : List ℕ) → sum l ≡ sum_by (λ x. x) l
unfolding sum
plain = is_sum_by sum (λ x. x) refl (λ x xs. refl)

pub sum-requires-clause-fits : goal.sum-requires-clause-fits
sum-requires-clause-fits c = search (rules, sums)

pub returns-clause-is : goal.returns-clause-is
returns-clause-is c =
    let e : c.sum.result ≡ sum_by (λ x. x) c.args.a = search rules in
    omega (arith, e, plain c.args.a)

pub returns-clause-small : goal.returns-clause-small
returns-clause-small c =
    let e : c.sum.result ≡ sum_by (λ x. x) c.args.a = search rules in
    let h : length c.args.a ≡ 16 = search rules in
    let b : sum_by (λ x. x) c.args.a ≤ length c.args.a * 65535 = sum_by-le (λ x. x) 65535 c.args.a (search rules) in
    omega (arith, e, h, b)
