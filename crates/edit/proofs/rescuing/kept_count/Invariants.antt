-- `edit::rescuing::kept_count` meets its contract: what remains of the records not dropped yet is what remains of all.
-- Assumes nothing.
use mathlib.Core.Path.{◌≡◌}
use Prim.Native.Nat.{◌≤◌}
use lib.ListN.{length}
use Rattle.plan.specs.Chain.{chain_of}
use Rattle.edit.specs.Rescue.{remaining, kept_count}
use Rattle.edit.proofs.rescuing.kept_count.Given as goal

abbrev pub invariant-loop-n : goal.invariant-loop-n
invariant-loop-n l = (l.n ≤ length (chain_of l.file)) × (remaining l.file l.n ≡ kept_count l.file)
