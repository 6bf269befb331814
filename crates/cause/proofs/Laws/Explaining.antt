-- Laws of the call: what is told is the cause, and the answer by the lines of its refusal.
-- Assumes nothing.
use mathlib.Core.Path.{◌≡◌, refl, sym, ap, ◌∙◌}
use mathlib.Core.Logic.{◌≢◌}
use mathlib.Core.Bool.{true, false}
use mathlib.Core.List.{List}
use Prim.Native.Nat.{ℕ, ◌+◌, ◌≤◌}
use native.Mathlib.Decide.{ℕ_discrete}
use native.Mathlib.Omega.{arith}
use lib.Dec.{eqb}
use lib.ListN.{length, length-set}
use borrow.Author.Tests.{ne_eqb}
use Rattle.table.specs.Sums.{nth}
use Rattle.table.specs.Ranges.{lowest}
use Rattle.table.proofs.Tables.{miss}
use Rattle.table.proofs.Filling.{values_length}
use Rattle.regulator.specs.Verdict.{waiting, loose, ruling_of}
use Rattle.regulator.specs.Turn.{granted, rulings, verdicts}
use Rattle.regulator.specs.Refusals.{slot_refusal}
use Rattle.regulator.specs.declared.state.State.{State}
use Rattle.regulator.proofs.Laws.Adding.{Adds, adds}
use Rattle.regulator.proofs.Laws.Refusing.{slot_taken, domain_number}
use Rattle.regulator.proofs.Laws.Ruling.{one_granted}
use Rattle.cause.specs.Cause.{none, loose_and, cause_from, cause_at, verdict_of, cause_of}
use Rattle.cause.specs.Explaining.{no_number, explain_refusal, explain_of}

-- there are seventeen verdicts
pub verdicts_length : (s : State) (o : List ℕ) → length (verdicts s o) ≡ 17
unfolding verdicts
verdicts_length s o = length-set (rulings s o) (granted s o) 1 ∙ values_length (ruling_of s o) 17

-- what is read of a slot that is not refused
module _ (s : State) (o : List ℕ) (e : slot_refusal s o 17 ≡ 0) where
  whole : Adds s
  whole = adds s (slot_taken s o 17 e).adds

  pub offers_length : length o ≡ 17
  offers_length = (slot_taken s o 17 e).offered.offers_long

  pub slots_left : s.decided ≤ s.plan.period
  slots_left = omega (arith, whole.below)

  pub granted_is : (v : List ℕ) → v ≡ verdicts s o → (g : ℕ) → g ≡ lowest (λ (m : ℕ). eqb (nth v m) 1) 17 → g ≡ granted s o
  granted_is v q g e = e ∙ ap (λ (w : List ℕ). lowest (λ (m : ℕ). eqb (nth w m) 1) 17) q ∙ one_granted s o whole.balanced.turn

-- the cause is that of the verdict, which is one of the first six or none of them
module _ (s : State) (o : List ℕ) (n : ℕ) (v : List ℕ) (q : v ≡ verdicts s o) where
  pub told_at : (k : ℕ) → nth v n ≡ k → cause_at s o n k ≡ cause_of s o n
  told_at k e = ap (cause_at s o n) (sym e ∙ ap (λ (w : List ℕ). nth w n) q)

  pub told_else : nth v n ≢ 0 → nth v n ≢ 1 → nth v n ≢ 2 → nth v n ≢ 3 → nth v n ≢ 4 → nth v n ≢ 5
      → loose_and (loose s) (lowest (waiting s o) 16 + 1) ≡ cause_of s o n
  unfolding cause_at cause_from
  told_else z0 z1 z2 z3 z4 z5 = sym (other (nth v n) z0 z1 z2 z3 z4 z5) ∙ told_at (nth v n) refl
    where
      other : (k : ℕ) → k ≢ 0 → k ≢ 1 → k ≢ 2 → k ≢ 3 → k ≢ 4 → k ≢ 5 → cause_at s o n k ≡ loose_and (loose s) (lowest (waiting s o) 16 + 1)
      other k z0 z1 z2 z3 z4 z5 = rw (ne_eqb k 0 z0, ne_eqb k 1 z1, ne_eqb k 2 z2, ne_eqb k 3 z3, ne_eqb k 4 z4, ne_eqb k 5 z5) refl

-- a number that is 0 or planned is at most 16
pub number_most : (s : State) (n : ℕ) → no_number s.plan n ≡ false → n ≤ 16
unfolding no_number
number_most s n e = go (ℕ_discrete n 0)
  where
    go : Dec (n ≡ 0) → n ≤ 16
    go (yes q) = omega arith
    go (no q) = (domain_number s.plan n (rw (ne_eqb n 0 q) at e)).1

-- the answer: the slot is refused, the number is, or neither
module _ (s : State) (o : List ℕ) (n : ℕ) where
  refused_slot : slot_refusal s o 17 ≢ 0 → explain_refusal s o n ≡ slot_refusal s o 17
  unfolding explain_refusal
  refused_slot h = miss _ _ _ (ne_eqb (slot_refusal s o 17) 0 h)

  pub explain_slot : slot_refusal s o 17 ≢ 0 → explain_of s o n ≡ record { refused = slot_refusal s o 17; verdict = 0; cause = none }
  unfolding explain_of
  explain_slot h = rw (refused_slot h, ne_eqb (slot_refusal s o 17) 0 h) refl

  pub explain_number : slot_refusal s o 17 ≡ 0 → no_number s.plan n ≡ true → explain_of s o n ≡ record { refused = 62; verdict = 0; cause = none }
  unfolding explain_of explain_refusal
  explain_number e h = rw (e, h) refl

  pub explain_told : slot_refusal s o 17 ≡ 0 → no_number s.plan n ≡ false
      → explain_of s o n ≡ record { refused = 0; verdict = verdict_of s o n; cause = cause_of s o n }
  unfolding explain_of explain_refusal
  explain_told e h = rw (e, h) refl
