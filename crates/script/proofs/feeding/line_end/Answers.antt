-- `script::feeding::line_end` meets its contract.
-- Assumes nothing.
use mathlib.Core.Path.{subst, sym}
use Prim.Native.Nat.{ℕ, ◌+◌}
use Rattle.script.specs.Inner.{LineEnd}
use Rattle.script.proofs.Laws.Splitting.{line_found}
use Rattle.script.proofs.feeding.line_end.Goals as goal

pub returns : goal.returns
returns c =
    let a = c.args in
    subst (λ (n : ℕ). LineEnd a.part.now a.from (a.from + n)) (sym c.unwrap_or.ensures)
    (line_found a.part.now a.from c.min-most.result c.requires c.min-most.ensures c.place_of.result c.place_of.ensures)
