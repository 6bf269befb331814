-- `plan::writing::list_domains` meets its contract: the domains of the numbers passed are listed.
-- Assumes nothing.
use mathlib.Core.Path.{◌≡◌}
use Prim.Native.Nat.{◌-◌, ◌≤◌}
use lib.ListN.{length}
use Rattle.plan.specs.Writing.{Lists}
use Rattle.plan.proofs.writing.list_domains.Given as goal

abbrev pub invariant-loop-j : goal.invariant-loop-j
invariant-loop-j l = (l.j ≤ 16) × (length l.domains ≡ 16) × Lists l.p l.j l.count l.domains

abbrev pub decreases-loop-j : goal.decreases-loop-j
decreases-loop-j l = 16 - l.j
