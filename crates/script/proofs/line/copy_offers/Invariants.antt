-- `script::line::copy_offers` meets its contract.
-- Assumes nothing.
use mathlib.Core.Path.{◌≡◌}
use lib.ListN.{take}
use Rattle.script.specs.Line.{offers_of}
use Rattle.script.proofs.line.copy_offers.Given as goal

abbrev pub invariant-loop-i : goal.invariant-loop-i
invariant-loop-i l = take l.i l.offers ≡ take l.i (offers_of l.digits)
