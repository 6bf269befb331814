-- `plan::roundtrip::write_and_read` meets its contract: the round trip, as code.
-- Assumes nothing.
use mathlib.Core.Path.{◌≡◌, sym, ap}
use native.Mathlib.Omega.{arith}
use borrow.Author.Tests.{eq-eqb, ne_eqb}
use Prim.Native.Nat.{◌≤◌}
use lib.ListN.{length}
use lib.Seq.{length-take-le}
use Rattle.table.proofs.Tables.{miss, hit}
use Rattle.std.proofs.lemmas.Result.{err_from_is_err_and}
use Rattle.plan.specs.Value.{Sized}
use Rattle.plan.specs.RoundTrip.{read_back}
use Rattle.plan.specs.Writing.{write_plan, Writing}
use Rattle.plan.proofs.Laws.Values.{number_some}
use Rattle.plan.proofs.Laws.RoundTrip.{part_fits, write_read}
use borrow.Author.Rules.{rules}
use Rattle.plan.proofs.roundtrip.write_and_read.Goals as goal

pub returns-in_err-n-clause-value : goal.returns-in_err-n-clause-value
unfolding read_back
returns-in_err-n-clause-value c = grind (arith, miss, ne_eqb, number_some, err_from_is_err_and)

pub slice_bounds-read-end : goal.slice_bounds-read-end
slice_bounds-read-end c =
    let told : record { refused = 0; place = 0; bytes = c.in_ok-n.n } ≡ write_plan c.args.p (length c.args.buffer.now) = grind arith in
    let took = sym (ap (λ (w : Writing). w.refused) told) in
    let h = part_fits c.args.p c.args.buffer.now took in
    omega (arith, h.1, ap (λ (w : Writing). w.bytes) told, c.write.auto.buffer)

pub slice_bounds-read-end-2 : goal.slice_bounds-read-end-2
slice_bounds-read-end-2 c =
    let told : record { refused = 0; place = 0; bytes = c.in_ok-n.n } ≡ write_plan c.args.p (length c.args.buffer.now) = grind arith in
    let took = sym (ap (λ (w : Writing). w.refused) told) in
    let h = part_fits c.args.p c.args.buffer.now took in
    let room : c.in_ok-n.n ≤ length c.write.new.buffer = omega (arith, h.1, ap (λ (w : Writing). w.bytes) told, c.write.auto.buffer) in
    sym (length-take-le _ _ room)

pub returns-clause-value : goal.returns-clause-value
unfolding read_back
returns-clause-value c =
    let sized : Sized c.args.p = search rules in
    let told : record { refused = 0; place = 0; bytes = c.in_ok-n.n } ≡ write_plan c.args.p (length c.args.buffer.now) = grind arith in
    let took = sym (ap (λ (w : Writing). w.refused) told) in
    grind (arith, hit, eq-eqb, write_read c.args.p c.args.buffer.now sized took)
