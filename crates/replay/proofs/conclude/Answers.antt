-- `replay::conclude` meets its contract.
-- Assumes nothing.
use mathlib.Core.Path.{sym}
use native.Mathlib.Omega.{arith}
use lib.Seq.{length-take-le}
use Rattle.script.proofs.Laws.Feeding.{shown_fits}
use Rattle.replay.proofs.conclude.Goals as goal

pub slice_bounds-write_all-end-then-eq : goal.slice_bounds-write_all-end-then-eq
slice_bounds-write_all-end-then-eq g c = sym (length-take-le c.args.s.run.at c.args.out.now c.requires.at)

pub slice_bounds-finish-end : goal.slice_bounds-finish-end
slice_bounds-finish-end g c = sym (length-take-le c.args.s.part.filled c.args.text.now c.requires.part)

pub finish-at-requires : goal.finish-at-requires
finish-at-requires g c =
    record {
      sound = c.requires.sound;
      used_in_bounds = omega (arith, c.requires, length-take-le c.args.s.part.filled c.args.text.now c.requires.part);
    }

-- what is shown then is within the buffer
pub slice_bounds-write_all-end-2 : goal.slice_bounds-write_all-end-2
slice_bounds-write_all-end-2 g c = shown_fits c.finish-at.new.out c.args.out.now _ c.finish-at.result c.args.s.run.at c.finish-at.ensures c.requires.at

pub slice_bounds-write_all-end-3 : goal.slice_bounds-write_all-end-3
slice_bounds-write_all-end-3 g c =
    sym
    (length-take-le c.finish-at.result c.finish-at.new.out
    (shown_fits c.finish-at.new.out c.args.out.now _ c.finish-at.result c.args.s.run.at c.finish-at.ensures c.requires.at))
