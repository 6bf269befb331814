-- Laws of needs and estimates: a need is at most the reservation, and the smallest number at or above the estimate; what a period
-- begins with; and the estimates after a close. No law of floats is used.
-- Assumes nothing.
use mathlib.Core.Path.{◌≡◌, refl, sym, ap, ◌∙◌}
use mathlib.Core.Bool.{Bool, true, false, false≢true}
use mathlib.Core.List.{List}
use Prim.Native.Nat.{ℕ, ◌+◌, ◌-◌, ◌≤◌, ◌<◌}
use native.Mathlib.Omega.{arith}
use lib.ListN.{length, get_or}
use lib.Dec.{ltb}
use lib.Ieee.{Float}
use borrow.Author.Tests.{ltb-true, ltb-false}
use Rattle.table.specs.Sums.{nth, sum}
use Rattle.table.specs.Ranges.{values_below, lowest}
use Rattle.table.proofs.Elements.{repeat_at, sum_le}
use Rattle.table.proofs.Filling.{values_length, values_at, values_same}
use Rattle.table.proofs.Searches.{Lowest, lowest_is}
use Rattle.regulator.specs.Forecast.{unknown, no_estimates, estimate_at, at_or_above, need_of, Smallest, NeedIsSmallest, need_at, start_yields, start_claims, closed_at, closed_with}
use Rattle.regulator.specs.declared.forecast.Tracked.{Tracked}
use Rattle.regulator.specs.declared.forecast.Estimate.{Estimate}
use Rattle.regulator.specs.declared.forecast.Estimate.TheVariants.{Unknown, Known}

-- the need of an estimate z: what the search tells of it, first that no number at or above z is smaller
module _ (z : Float) (Q : ℕ) where
  abbrev n : ℕ
  n = lowest (at_or_above z) Q

  told : Lowest (at_or_above z) 0 (0 + Q) n
  told = lowest_is (at_or_above z) 0 Q

  first : (k : ℕ) → at_or_above z k ≡ true → n ≤ k
  first k e = go (ltb k n) refl
    where
      go : (b : Bool) → ltb k n ≡ b → n ≤ k
      go true h = absurd (false≢true (sym (told.before k (omega arith) (ltb-true k n h)) ∙ e))
      go false h = ltb-false k n h

  -- it is at or above z if any number from 0 to Q is, and Q if none is
  reached : (k : ℕ) → k ≤ Q → at_or_above z k ≡ true → at_or_above z n ≡ true
  reached k low e = go (ltb n Q) refl
    where
      go : (b : Bool) → ltb n Q ≡ b → at_or_above z n ≡ true
      go true h = told.holds (omega (arith, ltb-true n Q h))
      go false h =
          let same : n ≡ k = omega (arith, first k e, ltb-false n Q h) in
          ap (at_or_above z) same ∙ e

  none_reached : ((k : ℕ) → k ≤ Q → at_or_above z k ≡ false) → n ≡ Q
  none_reached none = go (ltb n Q) refl
    where
      go : (b : Bool) → ltb n Q ≡ b → n ≡ Q
      go true h =
          let low = ltb-true n Q h in
          absurd (false≢true (sym (none n (omega arith)) ∙ told.holds (omega arith)))
      go false h = omega (arith, told.most, ltb-false n Q h)

  smallest_is : Smallest z Q n
  smallest_is =
      record { within = omega (arith, told.most); smallest = λ k low e. (reached k low e, first k e); otherwise = none_reached }

pub need_is_smallest : NeedIsSmallest
unfolding need_of
need_is_smallest z Q = smallest_is z Q

pub need_most : (e : Estimate) (Q : ℕ) → need_of e Q ≤ Q
unfolding need_of
need_most Unknown Q = omega arith
need_most (Known z) Q = (need_is_smallest z Q).within

-- what a period begins with, at index j and in all
module _ (Q : List ℕ) (l : List Tracked) where
  pub claims_long : length (start_claims Q l) ≡ 16
  claims_long = values_length (need_at Q l) 16

  pub yields_long : length (start_yields Q l) ≡ 16
  yields_long = values_length (λ (j : ℕ). nth Q j - need_at Q l j) 16

  pub claims_at : (j : ℕ) → j < 16 → nth (start_claims Q l) j ≡ need_at Q l j
  claims_at j h = values_at (need_at Q l) 0 16 j h

  pub claims_most : (j : ℕ) → j < 16 → nth (start_claims Q l) j ≤ nth Q j
  claims_most j h = omega (arith, claims_at j h, need_most (estimate_at l j) (nth Q j))

  pub yields_at : (j : ℕ) → j < 16 → nth (start_claims Q l) j + nth (start_yields Q l) j ≡ nth Q j
  yields_at j h =
      let y = values_at (λ (i : ℕ). nth Q i - need_at Q l i) 0 16 j h in
      omega (arith, y, claims_at j h, claims_most j h)

  -- what is yielded is what the claims leave of the reservations, and both are at most these
  pub yields_left : values_below (λ (j : ℕ). nth Q j - nth (start_claims Q l) j) 16 ≡ start_yields Q l
  yields_left = values_same _ _ 16 (λ j h. ap (λ (n : ℕ). nth Q j - n) (claims_at j h))

  pub claims_sum : length Q ≡ 16 → sum (start_claims Q l) ≤ sum Q
  claims_sum long = sum_le (start_claims Q l) Q (claims_long ∙ sym long) (λ i h. claims_most i (omega (arith, claims_long)))

  pub yields_sum : length Q ≡ 16 → sum (start_yields Q l) ≤ sum Q
  yields_sum long = sum_le (start_yields Q l) Q (yields_long ∙ sym long) (λ i h. omega (arith, yields_at i (omega (arith, yields_long))))

-- a domain that is not marked has no estimate
abbrev pub Unmarked : List Bool → List Tracked → Type 0
Unmarked marked l = (j : ℕ) → j < 16 → get_or marked j false ≡ false → estimate_at l j ≡ Unknown

pub none_at_all : (j : ℕ) → estimate_at no_estimates j ≡ Unknown
none_at_all j = ap (λ (t : Tracked). t.estimate) (repeat_at 16 j unknown)

module _ (marked : List Bool) (l : List Tracked) (a b : List ℕ) where
  pub closed_long : length (closed_with marked l a b) ≡ 16
  closed_long = values_length (closed_at marked l a b) 16

  pub closed_unmarked : Unmarked marked (closed_with marked l a b)
  closed_unmarked j h e = ap (λ (t : Tracked). t.estimate) (values_at (closed_at marked l a b) unknown 16 j h) ∙ rw e
