-- `edit::adding::highest_free` meets its contract: what is left below gives what the whole gives.
-- Assumes nothing.
use mathlib.Core.Path.{◌≡◌, sym, ap, ◌∙◌}
use mathlib.Core.Bool.{Bool, true, false, cond, not}
use Prim.Native.Nat.{ℕ, zero, suc, ◌≤◌, ◌<◌}
use native.Mathlib.Omega.{arith}
use Rattle.table.specs.Ranges.{highest}
use Rattle.table.proofs.Searches.{high_none, high_on, high_here}
use Rattle.edit.specs.Inner.{unlisted_in}
use Rattle.edit.proofs.adding.highest_free.Goals as goal

-- below index 1 there is none but 0
none_low : (f : ℕ → Bool) (k : ℕ) → k ≤ 1 → highest f k ≡ 0
unfolding highest
none_low f zero h = high_none f
none_low f (suc k) h = go (f k)
  where
    first : k ≡ 0
    first = omega arith

    go : (b : Bool) → cond b k (highest f k) ≡ 0
    go true = first
    go false = ap (highest f) first ∙ high_none f

pub loop-k-preserved : goal.loop-k-preserved
unfolding unlisted_in
loop-k-preserved c =
    let a = c.args in
    let low : 0 < c.loop-k.k = omega (arith, c.loop-k-test.true) in
    sym (high_on (unlisted_in a.l.count a.l.records) c.loop-k.k low (ap not (sym c.is_listed.ensures ∙ c.if-not-is_listed.false))) ∙ c.loop-k.invariant

pub returns-then-not-is_listed : goal.returns-then-not-is_listed
unfolding unlisted_in
returns-then-not-is_listed c =
    let a = c.args in
    let low : 0 < c.loop-k.k = omega (arith, c.loop-k-test.true) in
    (omega (arith, c.loop-k-test.true), sym (high_here (unlisted_in a.l.count a.l.records) c.loop-k.k low (ap not (sym c.is_listed.ensures ∙ c.if-not-is_listed.true))) ∙ c.loop-k.invariant)

pub returns : goal.returns
returns c = sym c.loop-k.invariant ∙ none_low _ c.loop-k.k c.loop-k-test.false
