-- A file laid anew record by record: what every edit of a plan file comes to.
-- Assumes nothing.
use Rattle.std.specs.Prelude.{ℕ, ◌/◌, ◌%◌, ◌<◌, ◌≡◌, ◌≢◌, List, ◌∷◌, ◌++◌, cond, length, take, drop, replicate, eqb}
use Rattle.plan.specs.Records.{record_at, record_count}
use Rattle.plan.specs.Writing.{records_from}

-- a file of as many records as s, of which record k is f k
unfoldable pub laid : (ℕ → List ℕ) → List ℕ → List ℕ
laid f s = records_from f 0 (record_count s)

-- a zeroed record
abbrev pub blank : List ℕ
blank = replicate 16 0

-- the bytes of record k with link l: record 0 has its link in bytes 2-3, a domain record in bytes 0-1
unfoldable pub relinked : ℕ → ℕ → List ℕ → List ℕ
relinked k l b = cond (eqb k 0) (take 2 b ++ (l % 256 ∷ l / 256 % 256 ∷ drop 4 b)) (l % 256 ∷ l / 256 % 256 ∷ drop 2 b)

-- record k of file s, where the link of record q is set to l and nothing else
unfoldable pub with_link : List ℕ → ℕ → ℕ → ℕ → List ℕ
with_link s q l k = cond (eqb k q) (relinked k l (record_at s k)) (record_at s k)

-- the same, and record i is replaced by the bytes b
unfoldable pub rewritten : (s : List ℕ) (q l i : ℕ) (b : List ℕ) → ℕ → List ℕ
rewritten s q l i b k = cond (eqb k i) b (with_link s q l k)

-- File t has the length of s, and every record but i and q is as it was.
pub record OnlyTwo (s t : List ℕ) (i q : ℕ) : Type 0 where
  pub long : length t ≡ length s
  pub others : (k : ℕ) → k < record_count s → k ≢ i → k ≢ q → record_at t k ≡ record_at s k
