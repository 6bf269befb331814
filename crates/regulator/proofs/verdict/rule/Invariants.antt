-- `regulator::verdict::rule` meets its contract: the buffer is filled with the rulings from the front.
-- Assumes nothing.
use mathlib.Core.Path.{◌≡◌}
use Prim.Native.Nat.{◌+◌}
use lib.ListN.{length, take}
use Rattle.table.specs.Ranges.{values_below}
use Rattle.regulator.specs.Verdict.{blocked as blocked_in, ruling_of}
use Rattle.regulator.proofs.verdict.rule.Given as goal

abbrev pub invariant-loop-j : goal.invariant-loop-j
invariant-loop-j l =
    (l.blocked ≡ blocked_in l.s l.offers) × (length l.verdicts ≡ 17) × (take (l.j + 1) l.verdicts ≡ values_below (ruling_of l.s l.offers) (l.j + 1))
