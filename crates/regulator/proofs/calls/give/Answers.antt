-- `regulator::calls::give` meets its contract: a yield that is not refused has the claim, and nothing wraps.
-- Assumes nothing.
use Prim.Native.Nat.{◌-◌, ◌≤◌, ◌<◌}
use native.Mathlib.Omega.{arith}
use Rattle.regulator.proofs.Laws.Adding.{Balanced, Small, adds, small, stock_fits}
use Rattle.regulator.proofs.Laws.Refusing.{YieldTaken, yield_taken}
use borrow.Author.Rules.{rules}
use Rattle.regulator.proofs.calls.give.Goals as goal

pub overflow_sub-domain : goal.overflow_sub-domain
overflow_sub-domain c =
    let taken : YieldTaken c.args.s c.args.domain c.args.k = yield_taken c.args.s c.args.domain c.args.k (search rules) in
    omega (arith, taken.low)

pub overflow_cast-k : goal.overflow_cast-k
overflow_cast-k c =
    let taken : YieldTaken c.args.s c.args.domain c.args.k = yield_taken c.args.s c.args.domain c.args.k (search rules) in
    let balanced : Balanced c.args.s = (adds c.args.s taken.adds).balanced in
    let index : c.args.domain - 1 < 16 = omega (arith, taken.low, taken.high) in
    let fits : Small c.args.s (c.args.domain - 1) = small c.args.s balanced (c.args.domain - 1) index in
    omega (arith, taken.fits, fits.claim)

pub move_claim-requires : goal.move_claim-requires
move_claim-requires c =
    let taken : YieldTaken c.args.s c.args.domain c.args.k = yield_taken c.args.s c.args.domain c.args.k (search rules) in
    let index : c.args.domain - 1 < 16 = omega (arith, taken.low, taken.high) in
    let balanced : Balanced c.args.s = (adds c.args.s taken.adds).balanced in
    let stocked : c.args.s.stock ≤ c.args.s.plan.period = stock_fits c.args.s balanced (search rules) (search rules) in
    let fits : Small c.args.s (c.args.domain - 1) = small c.args.s balanced (c.args.domain - 1) index in
    record {
      j_bound = index;
      k_bound = taken.fits;
      k_bound_2 = omega (arith, stocked, balanced.plan.small, taken.fits, fits.claim);
      k_bound_3 = omega (arith, taken.fits, fits.claim, fits.yielded);
    }
