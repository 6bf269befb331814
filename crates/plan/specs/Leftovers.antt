-- What document 02, Point 5 says of reading by the two rules, as claims about the definitions.
-- Assumes nothing.
use Rattle.std.specs.Prelude.{ℕ, ◌≤◌, ◌<◌, ◌≡◌, ◌≢◌, true, List}
use Rattle.plan.specs.Records.{record_count}
use Rattle.plan.specs.Reading.{leftover, read_plan, read_with_leftovers}

-- Reading answers what the earlier rule answers, or 12: nothing else has changed.
abbrev pub EarlierOrTwelve : Type 0
EarlierOrTwelve = (s : List ℕ) → (read_plan s).refused ≢ 12 → read_plan s ≡ read_with_leftovers s

-- record i of a file is a leftover
abbrev pub Left : List ℕ → ℕ → Type 0
Left s i = (i < record_count s) × (leftover s i ≡ true)

-- 12 is told only where the earlier rule takes the file, and at the lowest leftover; and wherever that rule takes the file
-- and there is a leftover.
pub record Twelve (s : List ℕ) : Type 0 where
  pub taken : (read_plan s).refused ≡ 12 → (read_with_leftovers s).refused ≡ 0
  pub place : (read_plan s).refused ≡ 12 → Left s (read_plan s).place
  pub lowest : (read_plan s).refused ≡ 12 → (i : ℕ) → Left s i → (read_plan s).place ≤ i
  pub told : (read_with_leftovers s).refused ≡ 0 → (i : ℕ) → Left s i → (read_plan s).refused ≡ 12

abbrev pub TwelveForLeftovers : Type 0
TwelveForLeftovers = (s : List ℕ) → Twelve s
