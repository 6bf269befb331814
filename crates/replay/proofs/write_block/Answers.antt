-- `replay::write_block` meets its contract.
-- Assumes nothing.
use mathlib.Core.Path.{sym}
use native.Mathlib.Omega.{arith}
use lib.ListN.{length}
use lib.Seq.{length-take-le}
use Rattle.replay.specs.Buffers.{Within}
use borrow.Author.Rules.{rules}
use Rattle.replay.proofs.write_block.Goals as goal

pub slice_bounds-write_all-end : goal.slice_bounds-write_all-end
slice_bounds-write_all-end g c =
    let given : Within c.args.r c.args.filled c.args.room (length c.args.out.now) = search rules in
    sym (length-take-le c.args.r.at c.args.out.now given.at)

pub returns : goal.returns
returns g c =
    let w = c.requires in
    record {
      sound = record { adds = w.sound.adds; lines = w.sound.lines };
      used = w.used;
      part = w.part;
      at = omega arith;
    }
