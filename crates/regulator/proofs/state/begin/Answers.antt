-- `regulator::state::begin` meets its contract.
-- Assumes nothing.
use mathlib.Core.Path.{◌≡◌, ap, ◌∙◌}
use mathlib.Core.Bool.{false}
use mathlib.Core.List.{List}
use Prim.Native.Nat.{ℕ, ◌-◌, ◌≤◌}
use native.Mathlib.Omega.{arith}
use borrow.Author.Rules.{rules}
use lib.ListN.{replicate}
use Rattle.table.specs.Sums.{nth, sum}
use Rattle.table.specs.Ranges.{values_below}
use Rattle.regulator.specs.Forecast.{start_yields}
use Rattle.regulator.proofs.Laws.Forecasting.{yields_left, yields_sum}
use Rattle.regulator.proofs.state.begin.Goals as goal

pub overflow_cast-stock : goal.overflow_cast-stock
overflow_cast-stock c =
    let yields : (let a = c.args in c.left_over-yielded.result ≡ start_yields a.p.reservation a.tracked) =
    let a = c.args in
    c.left_over-yielded.ensures
    ∙ ap (λ (l : List ℕ). values_below (λ (j : ℕ). nth a.p.reservation j - nth l j) 16) c.start_claims-claim.ensures
    ∙ yields_left a.p.reservation a.tracked in
    let fits : sum (start_yields c.args.p.reservation c.args.tracked) ≤ sum c.args.p.reservation = yields_sum c.args.p.reservation c.args.tracked (search rules) in
    omega (arith, c.total-stock.ensures.is, ap sum yields, fits, c.requires)

pub returns : goal.returns
returns c =
    let yields : (let a = c.args in c.left_over-yielded.result ≡ start_yields a.p.reservation a.tracked) =
    let a = c.args in
    c.left_over-yielded.ensures
    ∙ ap (λ (l : List ℕ). values_below (λ (j : ℕ). nth a.p.reservation j - nth l j) 16) c.start_claims-claim.ensures
    ∙ yields_left a.p.reservation a.tracked in
    let a = c.args in
    λ i. record {
      plan = a.p;
      decided = 0;
      closed = a.closed;
      idle = 0;
      best = 0;
      stock = (c.total-stock.ensures.is ∙ ap sum yields) i;
      turn = a.turn;
      claim = c.start_claims-claim.ensures i;
      reserved = replicate 16 0;
      reclaimed = replicate 16 0;
      yielded = yields i;
      writebacks = replicate 16 0;
      steps = 0;
      waiting = record { given = false; plan = c.no_domains.ensures i };
      writebackclaim = a.p.writebackreservation;
      tracked = a.tracked;
    }
