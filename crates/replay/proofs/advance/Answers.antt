-- `replay::advance` meets its contract.
-- Assumes nothing.
use mathlib.Core.Path.{sym}
use mathlib.Core.List.{List}
use Prim.Native.Nat.{ℕ}
use native.Mathlib.Omega.{arith}
use lib.ListN.{length, take}
use lib.Seq.{length-take-le}
use Rattle.script.specs.Feeding.{Fed}
use Rattle.script.specs.declared.feeding.Run.{Run}
use Rattle.script.proofs.Laws.Feeding.{shown_fits}
use Rattle.replay.specs.Buffers.{Within}
use Rattle.replay.proofs.advance.Goals as goal

-- Lines of the part that are carried out leave all within the two buffers.
fed_within : {r q : Run} {filled room : ℕ} {b d : List ℕ} (text : List ℕ) → Within r filled (length text) (length b)
    → Fed (take filled text) room r b q d → Within q filled (length text) (length d)
fed_within {r} {q} {filled} {b = b} {d = d} text w f =
    record {
      sound = f.sound;
      used = omega (arith, f.within, length-take-le filled text w.part);
      part = w.part;
      at = shown_fits d b f.text q.at r.at f.shown w.at;
    }

pub slice_bounds-feed-end : goal.slice_bounds-feed-end
slice_bounds-feed-end g c = c.requires.part

pub slice_bounds-feed-end-2 : goal.slice_bounds-feed-end-2
slice_bounds-feed-end-2 g c = sym (length-take-le c.args.s.part.filled c.args.text.now c.requires.part)

pub feed-run-requires : goal.feed-run-requires
feed-run-requires g c =
    let w = c.requires in
    record { sound = w.sound; used_in_bounds = omega (arith, w, length-take-le c.args.s.part.filled c.args.text.now w.part) }

pub returns-then-run-ne0 : goal.returns-then-run-ne0
returns-then-run-ne0 g c = fed_within _ c.requires c.feed-run.ensures.fed

pub overflow_sub-out : goal.overflow_sub-out
overflow_sub-out g c = (fed_within c.args.text.now c.requires c.feed-run.ensures.fed).at

pub write_block-requires : goal.write_block-requires
write_block-requires g c = fed_within _ c.requires c.feed-run.ensures.fed

pub returns-then-out-run-lt-ROOM : goal.returns-then-out-run-lt-ROOM
returns-then-out-run-lt-ROOM g c = c.write_block.ensures

pub read_more-requires : goal.read_more-requires
read_more-requires g c = fed_within _ c.requires c.feed-run.ensures.fed

pub returns : goal.returns
returns g c = c.read_more.ensures.within
