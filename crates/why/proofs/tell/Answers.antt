-- `why::tell` meets its contract.
-- Assumes nothing.
use mathlib.Core.Path.{sym}
use Prim.Native.Nat.{◌≤◌}
use native.Mathlib.Omega.{arith}
use lib.ListN.{length}
use lib.Seq.{length-take-le}
use Rattle.script.proofs.Laws.Feeding.{shown_fits}
use Rattle.why.proofs.tell.Goals as goal

pub slice_bounds-out-end : goal.slice_bounds-out-end
slice_bounds-out-end g c =
    let fits : c.finish-n.result ≤ length c.finish-n.new.out = shown_fits c.finish-n.new.out _ _ c.finish-n.result 0 c.finish-n.ensures (omega arith) in
    fits

pub slice_bounds-write_all-end : goal.slice_bounds-write_all-end
slice_bounds-write_all-end g c =
    let fits : c.finish-n.result ≤ length c.finish-n.new.out = shown_fits c.finish-n.new.out _ _ c.finish-n.result 0 c.finish-n.ensures (omega arith) in
    sym (length-take-le c.finish-n.result c.finish-n.new.out fits)
