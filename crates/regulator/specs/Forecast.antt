-- Yield by forecast (document 02, Point 11): a domain's estimate, its need, what is yielded at a period's start, and the estimates after
-- a close. It knows lists of numbers, marks and estimates, and no state, so the ledger of the share rule cites it too.
-- Assumes nothing.
use Rattle.std.specs.Prelude.{ℕ, ◌+◌, ◌-◌, ◌≤◌, ◌≡◌, List, Bool, true, false, cond, pos, get_or, replicate, Float}
use Rattle.std.specs.Float.{binary64}
use Rattle.std.specs.Float.Ieee.{add, sub, mul, le, of_int, of_bits}
use Rattle.table.specs.Sums.{nth}
use Rattle.table.specs.Ranges.{values_below, lowest}
use Rattle.regulator.specs.declared.forecast.Tracked.{Tracked}
use Rattle.regulator.specs.declared.forecast.Estimate.{Estimate}
use Rattle.regulator.specs.declared.forecast.Estimate.TheVariants.{Unknown, Known}

-- "It has no estimate until its first period closes": one domain, and all sixteen. Index j of a list is domain number j + 1.
abbrev pub unknown : Tracked
unknown = record { estimate = Unknown }

abbrev pub no_estimates : List Tracked
no_estimates = replicate 16 unknown

-- the estimate at index j, and whether there is none
abbrev pub estimate_at : List Tracked → ℕ → Estimate
estimate_at tracked j = (get_or tracked j unknown).estimate

abbrev pub is_unknown : Estimate → Bool
is_unknown Unknown = true
is_unknown (Known z) = false

-- "in 64-bit floats": a whole number as one, and 0.25
abbrev pub float : ℕ → Float
float n = of_int binary64 (pos n)

abbrev pub quarter : Float
quarter = of_bits binary64 0x3fd0_0000_0000_0000

-- "At each later close it becomes z + (c − z) × 0.25, with z the old estimate and c the access passes, .., each operation rounded once"
abbrev pub moved : (z : Float) → (c : ℕ) → Float
moved z c = add binary64 z (mul binary64 (sub binary64 (float c) z) quarter)

-- "It has no estimate until its first period closes; then the estimate is its access passes. At each later close .."
abbrev pub next_estimate : Estimate → (c : ℕ) → Estimate
next_estimate Unknown c = Known (float c)
next_estimate (Known z) c = Known (moved z c)

-- a whole number is "at or above the estimate"
abbrev pub at_or_above : (z : Float) → ℕ → Bool
at_or_above z n = le z (float n)

-- "its need: the smallest whole number from 0 to Q at or above the estimate, or Q if there is none (as for a NaN) or no estimate"
-- (`lowest` is the lowest below Q, and Q where there is none)
unfoldable pub need_of : Estimate → (Q : ℕ) → ℕ
need_of Unknown Q = Q
need_of (Known z) Q = lowest (at_or_above z) Q

-- What holds of it at any float (theorem `need_is_smallest` of proofs/Laws/Forecasting.antt), in the sentence's words.
pub record Smallest (z : Float) (Q n : ℕ) : Type 0 where
  -- it is "from 0 to Q"
  pub within : n ≤ Q
  -- where a whole number from 0 to Q is at or above the estimate, it is too, and is the smallest of them
  pub smallest : (k : ℕ) → k ≤ Q → at_or_above z k ≡ true → (at_or_above z n ≡ true) × (n ≤ k)
  -- "or Q if there is none"
  pub otherwise : ((k : ℕ) → k ≤ Q → at_or_above z k ≡ false) → n ≡ Q

abbrev pub NeedIsSmallest : Type 0
NeedIsSmallest = (z : Float) (Q : ℕ) → Smallest z Q (need_of (Known z) Q)

-- the need at index j, of the reservations Q. A domain that is not marked has no estimate, so its need is Q.
abbrev pub need_at : (Q : List ℕ) → List Tracked → ℕ → ℕ
need_at Q tracked j = need_of (estimate_at tracked j) (nth Q j)

-- "At each period's start such a domain yields Q less its need": what all sixteen yield then, and the claims that they are left with
abbrev pub start_yields : (Q : List ℕ) → List Tracked → List ℕ
start_yields Q tracked = values_below (λ (j : ℕ). nth Q j - need_at Q tracked j) 16

abbrev pub start_claims : (Q : List ℕ) → List Tracked → List ℕ
start_claims Q tracked = values_below (need_at Q tracked) 16

-- A period closes, at index j and for all: a marked domain's "access passes" are its reserved and reclaimed ones of the period.
abbrev pub closed_at : (marked : List Bool) → List Tracked → (reserved reclaimed : List ℕ) → ℕ → Tracked
closed_at marked tracked reserved reclaimed j =
    record { estimate = cond (get_or marked j false) (next_estimate (estimate_at tracked j) (nth reserved j + nth reclaimed j)) Unknown }

abbrev pub closed_with : (marked : List Bool) → List Tracked → (reserved reclaimed : List ℕ) → List Tracked
closed_with marked tracked reserved reclaimed = values_below (closed_at marked tracked reserved reclaimed) 16
