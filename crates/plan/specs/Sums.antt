-- The sums that the walk tells as an answer, and what document 02, Point 3 says of them.
-- Assumes nothing.
use Rattle.std.specs.Prelude.{ℕ, ◌-◌, ◌≤◌, ◌≡◌, List, [], ◌∷◌, ◌++◌, cond, length, take, eqb, ltb}
use Rattle.table.specs.Sums.{nth}
use Rattle.table.specs.Lines.{first_of}
use Rattle.plan.specs.Value.{reserved_of}
use Rattle.plan.specs.Records.{period_in}
use Rattle.plan.specs.Chain.{chain_of, domains_in, sums_in, last_sum}
use Rattle.plan.specs.Walk.{sums_held}
use Rattle.plan.specs.Reading.{head_table, refused_reading, way_table, accepted_of, read_with_leftovers, Reading}
use Rattle.plan.specs.declared.chain.Sums.{Sums}

-- The sums told of a file, for any bytes: none where 1 to 3 refuse it, since then no link is followed.
unfoldable pub sums_told : List ℕ → Sums
sums_told s = cond (eqb (first_of (head_table s) 0) 0) (sums_held (sums_in s)) (sums_held [])

-- "proved to be plain addition over them": there is one sum for each record taken, that after the k-th record is the sum
-- over the first k domains of the chain, and so the last one that over all of them.
pub record PlainSums (s : List ℕ) : Type 0 where
  pub one : length (sums_in s) ≡ length (chain_of s)
  pub each : (k : ℕ) → 1 ≤ k → k ≤ length (chain_of s) → nth (sums_in s) (k - 1) ≡ reserved_of (take k (domains_in s))
  pub last : last_sum s ≡ reserved_of (domains_in s)

abbrev pub SumsArePlain : Type 0
SumsArePlain = (s : List ℕ) → PlainSums s

-- reading as it was defined before the point: the domains of the chain are summed at its end
abbrev pub read_summed_at_end : List ℕ → Reading
read_summed_at_end s = first_of (way_table s ++ ((ltb (period_in s) (reserved_of (domains_in s)), refused_reading 10 0) ∷ [])) (accepted_of s)

-- "No answer of the reader changes." The reader that the point found took leftovers.
abbrev pub NoAnswerChanges : Type 0
NoAnswerChanges = (s : List ℕ) → read_with_leftovers s ≡ read_summed_at_end s
