-- `plan::reading::read` meets its contract: what the earlier rule refuses, and of what it takes the leftovers.
-- Assumes nothing.
use mathlib.Core.Path.{◌≡◌, sym, ap, ◌∙◌}
use mathlib.Core.List.{List}
use Prim.Native.Nat.{ℕ}
use native.Mathlib.Omega.{arith}
use Rattle.std.proofs.Common.{rules, Err}
use Rattle.plan.specs.Reading.{refused_reading, accepted_reading, reading_by, read_plan, read_with_leftovers, Reading}
use Rattle.plan.specs.Walk.{way_of, walked_reading, Walked}
use Rattle.plan.specs.declared.refusal.Refused.{Refused}
use Rattle.plan.specs.declared.value.Plan.{Plan}
use Rattle.plan.proofs.Laws.Values.{number_some}
use Rattle.plan.proofs.Laws.Reading.{good, earlier_is}
use Rattle.plan.proofs.Laws.Leftovers.{read_refused, read_left, read_clean}
use Rattle.plan.proofs.reading.read.Goals as goal

-- The reading of what the walk gave is that of the earlier rule.
module _ (s : List ℕ) {w : Walked} (walked : w ≡ way_of s) where
  told : {r : Reading} → r ≡ walked_reading w → r ≡ read_with_leftovers s
  told e = e ∙ ap walked_reading walked ∙ earlier_is s

  refused : (x : Refused) → reading_by (Err x) ≡ walked_reading w → reading_by (Err x) ≡ read_plan s
  refused x e = told e ∙ sym (read_refused s (λ z. number_some x.fault (ap (λ (r : Reading). r.refused) (told e) ∙ z)))

  took : (p : Plan) → accepted_reading p ≡ walked_reading w → (read_with_leftovers s).refused ≡ 0
  took p e = ap (λ (r : Reading). r.refused) (sym (told e))

pub returns-in_err-plan : goal.returns-in_err-plan
returns-in_err-plan c =
    let same : c.from_residual.result ≡ Err c.in_err-plan.field-0.0 = search rules in
    ap reading_by same ∙ refused c.args.file.now c.way-w.ensures _ (rw c.in_err-plan.was at c.walked_reading.ensures)

pub lowest_leftover-requires : goal.lowest_leftover-requires
lowest_leftover-requires c =
    let g = good _ (took c.args.file.now c.way-w.ensures _ (rw c.in_ok-plan.was at c.walked_reading.ensures)) in
    record { in_bounds = (g.whole.long, g.whole.short); seen_value = ap (λ (w : Walked). w.seen) (c.way-w.ensures ∙ g.walked) }

pub overflow_cast-result : goal.overflow_cast-result
overflow_cast-result c =
    let g = good _ (took c.args.file.now c.way-w.ensures _ (rw c.in_ok-plan.was at c.walked_reading.ensures)) in
    omega (arith, (rw c.in-Some.is at c.lowest_leftover.ensures).0, g.whole.short)

pub returns-in-Some : goal.returns-in-Some
returns-in-Some c =
    let low = rw c.in-Some.is at c.lowest_leftover.ensures in
    let t = took c.args.file.now c.way-w.ensures _ (rw c.in_ok-plan.was at c.walked_reading.ensures) in
    ap (refused_reading 12) (sym low.2) ∙ sym (read_left _ t low.1)

pub returns : goal.returns
returns c =
    let e = rw c.in_ok-plan.was at c.walked_reading.ensures in
    told c.args.file.now c.way-w.ensures e
    ∙ sym (read_clean _ (took c.args.file.now c.way-w.ensures _ e) (rw c.in_default.is at c.lowest_leftover.ensures))
