-- `plan::writing::write` meets its contract: its answer, and what the buffer holds.
-- Assumes nothing.
use mathlib.Core.Path.{◌≡◌, refl, sym, ap, ap₂, ◌∙◌}
use mathlib.Core.List.{List, ◌++◌}
use Prim.Native.Nat.{ℕ, ◌+◌, ◌*◌}
use native.Mathlib.Omega.{arith}
use lib.ListN.{length, drop}
use Rattle.std.proofs.lemmas.Result.{err_from_is_err_and}
use Rattle.plan.specs.Writing.{needed, Writing}
use Rattle.plan.proofs.Laws.Values.{number_some}
use Rattle.plan.proofs.Laws.Writing.{answer_refused, answer_short, answer_done, kept, put, listed}
use Rattle.plan.proofs.writing.write.Goals as goal

pub returns-in_err-check-clause-value : goal.returns-in_err-check-clause-value
returns-in_err-check-clause-value c =
    let a = c.args in
    let p = err_from_is_err_and c.from_residual.result c.from_residual.ensures.1 in
    rw (p.1, p.2) (answer_refused a.p (length a.buffer.now) _ c.in_err-check.ensures (number_some _))

pub returns-in_err-check-clause-buffer_after : goal.returns-in_err-check-clause-buffer_after
returns-in_err-check-clause-buffer_after c =
    let a = c.args in
    let e = answer_refused a.p (length a.buffer.now) _ c.in_err-check.ensures (number_some _) in
    kept a.p a.buffer.now (λ q. number_some _ (ap (λ (w : Writing). w.refused) e ∙ q))

pub returns-then-buffer-need-clause-value : goal.returns-then-buffer-need-clause-value
returns-then-buffer-need-clause-value c =
    let a = c.args in
    let need : 16 * (c.list_domains-l.result.count + 1) ≡ needed a.p = ap (λ (n : ℕ). 16 * (n + 1)) c.list_domains-l.ensures.counted in
    answer_short a.p (length a.buffer.now) _ c.in_ok-check.ensures refl (omega (arith, need, c.if-buffer-need.true))

pub returns-then-buffer-need-clause-buffer_after : goal.returns-then-buffer-need-clause-buffer_after
returns-then-buffer-need-clause-buffer_after c =
    let a = c.args in
    let need : 16 * (c.list_domains-l.result.count + 1) ≡ needed a.p = ap (λ (n : ℕ). 16 * (n + 1)) c.list_domains-l.ensures.counted in
    let e = answer_short a.p (length a.buffer.now) _ c.in_ok-check.ensures refl (omega (arith, need, c.if-buffer-need.true)) in
    kept a.p a.buffer.now (λ q. omega (arith, ap (λ (w : Writing). w.refused) e, q))

pub returns-clause-value : goal.returns-clause-value
returns-clause-value c =
    let a = c.args in
    let need : 16 * (c.list_domains-l.result.count + 1) ≡ needed a.p = ap (λ (n : ℕ). 16 * (n + 1)) c.list_domains-l.ensures.counted in
    let e = answer_done a.p (length a.buffer.now) _ c.in_ok-check.ensures refl (omega (arith, need, c.if-buffer-need.false)) in
    ap (λ (n : ℕ). record { refused = 0; place = 0; bytes = n }) need ∙ e

pub returns-clause-buffer_after : goal.returns-clause-buffer_after
returns-clause-buffer_after c =
    let a = c.args in
    let need : 16 * (c.list_domains-l.result.count + 1) ≡ needed a.p = ap (λ (n : ℕ). 16 * (n + 1)) c.list_domains-l.ensures.counted in
    let e = answer_done a.p (length a.buffer.now) _ c.in_ok-check.ensures refl (omega (arith, need, c.if-buffer-need.false)) in
    c.put_records.ensures
    ∙ ap₂ (λ (x : List ℕ) (n : ℕ). x ++ drop n a.buffer.now) (listed a.p _ _ c.list_domains-l.ensures) need
    ∙ put a.p a.buffer.now (sym (ap (λ (w : Writing). w.refused) e))
