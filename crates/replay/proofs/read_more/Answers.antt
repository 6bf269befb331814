-- `replay::read_more` meets its contract.
-- Assumes nothing.
use native.Mathlib.Omega.{arith}
use Rattle.replay.proofs.read_more.Goals as goal

pub returns-clause-within : goal.returns-clause-within
returns-clause-within g c =
    let w = c.requires in
    record {
      sound = record { adds = w.sound.adds; lines = w.sound.lines };
      used = omega arith;
      part = c.refill-part.ensures.refilled.within;
      at = w.at;
    }

pub returns-clause-kept : goal.returns-clause-kept
returns-clause-kept g c =
    let p = c.refill-part.ensures.refilled in
    p.kept
