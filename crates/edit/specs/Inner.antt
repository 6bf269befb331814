-- What the functions inside say beside the definitions: a file of which records are replaced, and a chain as an array.
-- Assumes nothing.
use Rattle.std.specs.Prelude.{ℕ, ◌+◌, ◌≤◌, ◌≡◌, List, ◌∷◌, Bool, true, false, cond, not, length, take, eqb, Option, Result}
use Rattle.std.specs.Result.{MatchResult}
use Rattle.std.specs.Option.{MatchOption}
use Rattle.table.specs.Members.{has, place_in}
use Rattle.table.specs.Ranges.{highest}
use Rattle.plan.specs.Records.{record_at}
use Rattle.plan.specs.Value.{number}
use Rattle.plan.specs.Chain.{chain_of}
use Rattle.plan.specs.Reading.{read_plan}
use Rattle.plan.specs.declared.refusal.Refused.{Refused}
use Rattle.edit.specs.Laying.{blank}
use Rattle.edit.specs.Compaction.{source}
use Rattle.edit.specs.Rescue.{stays_refused}

-- record j of a file in which record k is replaced by the bytes r
unfoldable pub replaced : List ℕ → ℕ → List ℕ → ℕ → List ℕ
replaced s k r j = cond (eqb j k) r (record_at s j)

-- record 0 and the records of a list, held as a count and an array
pub record Lists (xs : List ℕ) (count : ℕ) (records : List ℕ) : Type 0 where
  pub front : take (count + 1) records ≡ 0 ∷ xs
  pub counted : count ≡ length xs

-- record k is none of the first `count + 1` of an array
unfoldable pub unlisted_in : ℕ → List ℕ → ℕ → Bool
unlisted_in count records k = not (has k (take (count + 1) records))

-- record k of a file of which only those records are kept
unfoldable pub listed_only : List ℕ → ℕ → List ℕ → ℕ → List ℕ
listed_only s count records k = cond (unlisted_in count records k) blank (record_at s k)

-- the bytes of record 0 and of the n records of a file's chain, one after the other
pub record Gathers (s : List ℕ) (n : ℕ) (store : List ℕ) : Type 0 where
  pub counted : n ≡ length (chain_of s)
  pub at : (k : ℕ) → k ≤ n → record_at store k ≡ record_at s (source s k)

-- what a search for a domain number answers: how many stand before it, if it is there
abbrev pub IsPlace : ℕ → List ℕ → Option ℕ → Type 0
IsPlace n numbers r = MatchOption r (has n numbers ≡ false) (λ p. (has n numbers ≡ true) × (p ≡ place_in n numbers))

-- what a search for the highest index answers: that index, if it is not 0
abbrev pub IsHighest : (ℕ → Bool) → ℕ → Option ℕ → Type 0
IsHighest f n r = MatchOption r (highest f n ≡ 0) (λ k. (1 ≤ k) × (k ≡ highest f n))

-- what is told of a file before it is rescued: a refusal of reading that stays one
abbrev pub TellsStart : List ℕ → Result Unit Refused → Type 0
TellsStart s r =
    MatchResult r (λ _. stays_refused (read_plan s).refused ≡ false)
    (λ e. (stays_refused (read_plan s).refused ≡ true) × (number e.fault ≡ (read_plan s).refused) × (e.place ≡ (read_plan s).place))
