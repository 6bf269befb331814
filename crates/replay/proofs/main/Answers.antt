-- `replay::main` meets its contract: the two buffers hold what the functions ask.
-- Assumes nothing.
use native.Mathlib.Omega.{arith}
use Rattle.script.proofs.Laws.Feeding.{shown_fits}
use Rattle.replay.proofs.main.Goals as goal

pub read_script-s-requires : goal.read_script-s-requires
read_script-s-requires c =
    let g = c.start-run.ensures in
    record {
      sound = g.sound;
      used = omega (arith, g.none);
      part = omega arith;
      at = shown_fits c.start-run.new.out _ g.text c.start-run.result.at 0 g.shown (omega arith);
    }

pub conclude-requires : goal.conclude-requires
conclude-requires c = c.read_script-s.ensures
