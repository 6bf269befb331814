-- Compacting a plan file (document 02, Points 4 and 5).
-- Assumes nothing.
use Rattle.std.specs.Prelude.{ℕ, suc, ◌≡◌, ◌≢◌, List, ◌∷◌, cond, length, eqb, leb}
use Rattle.table.specs.Sums.{nth}
use Rattle.table.specs.Ranges.{values_below}
use Rattle.plan.specs.Value.{refusal, Refusal}
use Rattle.plan.specs.Records.{record_at}
use Rattle.plan.specs.Chain.{chain_of, domains_in}
use Rattle.plan.specs.Reading.{read_plan, read_with_leftovers}
use Rattle.plan.specs.Writing.{next_index}
use Rattle.edit.specs.Laying.{laid, blank, relinked}

-- the record that comes to stand at k: record 0 at its place, then those of the chain in chain order
abbrev pub source : List ℕ → ℕ → ℕ
source s k = nth (0 ∷ chain_of s) k

-- "compaction moves the chain's records to the front in chain order, relinks them and zeroes the others": what record k becomes
unfoldable pub moved_record : List ℕ → ℕ → List ℕ
moved_record s k = let n = length (chain_of s) in cond (leb k n) (relinked k (next_index n k) (record_at s (source s k))) blank

-- Point 5: "Compaction .. still takes leftovers, by the earlier rule": the refusals of the earlier rule, and no other
abbrev pub compact_refusal : List ℕ → Refusal
compact_refusal s = refusal (read_with_leftovers s).refused (read_with_leftovers s).place

-- What the file holds then. "A refused edit keeps every byte."
unfoldable pub compacted : List ℕ → List ℕ
compacted s = cond (eqb (compact_refusal s).refused 0) (laid (moved_record s) s) s

abbrev pub RefusedCompactKeeps : Type 0
RefusedCompactKeeps = (s : List ℕ) → (compact_refusal s).refused ≢ 0 → compacted s ≡ s

-- "The domains before and after compaction are the same list.", of any bytes.
abbrev pub SameDomains : Type 0
SameDomains = (s : List ℕ) → domains_in (compacted s) ≡ domains_in s

-- Of a file that it takes, Point 5: "its output is accepted", as the plan that the earlier rule reads; its chain is the
-- records 1, 2, ..; and it keeps the file's length.
pub record Compacts (s : List ℕ) : Type 0 where
  pub read : read_plan (compacted s) ≡ read_with_leftovers s
  pub chain : chain_of (compacted s) ≡ values_below suc (length (chain_of s))
  pub long : length (compacted s) ≡ length s

abbrev pub CompactsFile : Type 0
CompactsFile = (s : List ℕ) → (compact_refusal s).refused ≡ 0 → Compacts s
