-- `regulator::calls::open` meets its contract.
-- Assumes nothing.
use mathlib.Core.Path.{◌≡◌, sym, ap}
use native.Mathlib.Omega.{arith}
use borrow.Author.Tests.{eq-eqb, ne_eqb}
use Rattle.std.proofs.lemmas.Result.{err_from_is_err_and}
use Rattle.table.proofs.Tables.{hit}
use Rattle.plan.specs.Value.{no_domains, plan_refusal, Refusal}
use Rattle.regulator.specs.Forecast.{no_estimates}
use Rattle.regulator.specs.State.{begun}
use Rattle.regulator.specs.Calls.{open_plan, Opening}
use Rattle.regulator.proofs.Laws.Adding.{reservations_fit}
use Rattle.regulator.proofs.Laws.Telling.{plan_refused}
use Rattle.regulator.proofs.calls.open.Goals as goal

pub returns-in_err-check : goal.returns-in_err-check
unfolding open_plan
returns-in_err-check c =
    let told = c.in_err-check.ensures in
    let p = err_from_is_err_and c.from_residual.result c.from_residual.ensures.1 in
    let zeros : Refusal → Opening = λ r. record { refused = r.refused; place = r.place; state = begun (no_domains 0) 0 0 no_estimates } in
    rw (p.1, p.2, ne_eqb _ 0 (plan_refused c.args.p c.in_err-check.field-0.0 told)) (ap zeros told)

pub begin-requires : goal.begin-requires
begin-requires c =
    let accepted : (plan_refusal c.args.p).refused ≡ 0 = sym (ap (λ (r : Refusal). r.refused) c.in_ok-check.ensures) in
    omega (arith, reservations_fit _ accepted)

pub returns : goal.returns
unfolding open_plan
returns c =
    let accepted : (plan_refusal c.args.p).refused ≡ 0 = sym (ap (λ (r : Refusal). r.refused) c.in_ok-check.ensures) in
    rw (c.begin.ensures, c.no_estimates.ensures) (sym (hit _ _ _ (eq-eqb _ 0 accepted)))
