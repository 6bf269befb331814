-- `regulator::verdict::loose` meets its contract: loose from the slots left, less both claims.
-- Assumes nothing.
use mathlib.Core.Path.{sym, ap, ap₂, ◌∙◌}
use Prim.Native.Nat.{ℕ, ◌+◌, ◌-◌, ◌≤◌}
use lib.IntN.{pos, ◌-ℤ◌}
use mir.Syntax.{w32}
use mir.Val.{SFits}
use mir.Facts.{to_z-of_z}
use borrow.Author.Rules.{rules}
use Rattle.regulator.proofs.Laws.Loose.{loose_left}
use Rattle.regulator.proofs.verdict.loose.Goals as goal

pub returns : goal.returns
returns c =
    let below : c.args.s.decided ≤ c.args.s.plan.period = search rules in
    let s = c.args.s in
    let claims = ap₂ ◌+◌ c.total.ensures.is c.total-2.ensures.is in
    let fits : SFits w32 c.difference.result = search rules in
    to_z-of_z fits ∙ c.difference.ensures ∙ ap (λ (n : ℕ). pos (s.plan.period - s.decided) -ℤ pos n) claims ∙ sym (loose_left s below)
