-- Rescuing a plan file whose chain is broken (document 02, Point 14).
-- Assumes nothing.
use Rattle.std.specs.Prelude.{ℕ, zero, suc, ◌≤◌, ◌<◌, ◌≡◌, ◌≢◌, List, [], ◌∷◌, ◌++◌, Bool, true, cond, ◌&&◌, length, take, eqb, leb, ltb, Result, Ok, Err}
use Rattle.table.specs.Members.{has, last_of}
use Rattle.table.specs.Lines.{Line, first_of}
use Rattle.plan.specs.Value.{plan_of, reserved_of, number}
use Rattle.plan.specs.Records.{record_at, period_in}
use Rattle.plan.specs.Chain.{link, goes_on, chain_of, domains_at, domains_in}
use Rattle.plan.specs.Reading.{accepted_reading, read_plan}
use Rattle.plan.specs.declared.refusal.Refused.{Refused}
use Rattle.edit.specs.Laying.{laid, blank, with_link}

-- "The tool sets to 0 the link whose following draws the first refusal of 4 to 9 or 11": the records before that refusal are
-- `chain_of`, and so they are left. The link is that of the last of them, or of record 0 where there is none.
-- "then drops records from the end while the reservations sum above P", one at a time: of the first n so many are left.
unfoldable pub remaining : List ℕ → ℕ → ℕ
remaining s zero = 0
remaining s (suc n) = cond (ltb (period_in s) (reserved_of (take (suc n) (domains_in s)))) (remaining s n) (suc n)

-- how many records of the chain are kept, and which
abbrev pub kept_count : List ℕ → ℕ
kept_count s = remaining s (length (chain_of s))

abbrev pub kept_records : List ℕ → List ℕ
kept_records s = take (kept_count s) (chain_of s)

-- "and zeroes all records off the chain": what record k becomes. The link that is set to 0 in the end is that of the last
-- record kept, or of record 0 where none is kept.
unfoldable pub rescued_record : List ℕ → ℕ → List ℕ
rescued_record s k = cond (has k (0 ∷ kept_records s)) (with_link s (last_of 0 (kept_records s)) 0 k) blank

-- "Refusals 1 to 3 remain refusals", those of reading, with their place; nothing else is refused
abbrev pub stays_refused : ℕ → Bool
stays_refused n = leb 1 n && leb n 3

-- What rescuing answers: the number of a refusal and its place, and 0 kept; or 0, 0 and how many records of the chain were kept.
pub record Rescued : Type 0 where
  pub refused : ℕ
  pub place : ℕ
  pub kept : ℕ

-- What a call's answer says in these words.
abbrev pub rescued_by : Result ℕ Refused → Rescued
rescued_by (Ok kept) = record { refused = 0; place = 0; kept = kept }
rescued_by (Err e) = record { refused = number e.fault; place = e.place; kept = 0 }

abbrev pub rescue_table : List ℕ → List (Line Rescued)
rescue_table s = (stays_refused (read_plan s).refused, record { refused = (read_plan s).refused; place = (read_plan s).place; kept = 0 }) ∷ []

unfoldable pub rescue_answer : List ℕ → Rescued
rescue_answer s = first_of (rescue_table s) (record { refused = 0; place = 0; kept = kept_count s })

-- What the file holds then. A refusal keeps every byte.
unfoldable pub rescued : List ℕ → List ℕ
rescued s = cond (eqb (rescue_answer s).refused 0) (laid (rescued_record s) s) s

abbrev pub RefusedRescueKeeps : Type 0
RefusedRescueKeeps = (s : List ℕ) → (rescue_answer s).refused ≢ 0 → rescued s ≡ s

-- the records kept, and the one that the next link names
abbrev pub one_more : List ℕ → List ℕ
one_more s = kept_records s ++ (link s (kept_records s) ∷ [])

-- Of a file that it takes: "Its output is accepted", as the plan of the domains kept.
pub record Rescues (s : List ℕ) : Type 0 where
  pub read : read_plan (rescued s) ≡ accepted_reading (plan_of (period_in s) (take (kept_count s) (domains_in s)))
  -- The chain and its domains are a front part of what they were, as long as is told, and every record of it but the last
  -- is as it was, record 0 too. The file keeps its length.
  pub chain : chain_of (rescued s) ≡ kept_records s
  pub domains : domains_in (rescued s) ≡ take (kept_count s) (domains_in s)
  pub told : (rescue_answer s).kept ≡ length (chain_of (rescued s))
  pub same : (k : ℕ) → has k (0 ∷ kept_records s) ≡ true → k ≢ last_of 0 (kept_records s) → record_at (rescued s) k ≡ record_at s k
  pub long : length (rescued s) ≡ length s
  -- It is as long as it can be. No longer front part fits, so where the sum is not above P all of the chain is kept, and the
  -- link that is set is the one whose following draws the refusal. If the chain goes on behind the records kept (the next
  -- link is not 0, and following it is not refused), the next record brings the sum above P.
  pub most : (n : ℕ) → n ≤ length (chain_of s) → reserved_of (take n (domains_in s)) ≤ period_in s → n ≤ kept_count s
  pub whole : reserved_of (domains_in s) ≤ period_in s → kept_records s ≡ chain_of s
  pub next : goes_on s (kept_records s) ≡ true → period_in s < reserved_of (domains_at s (one_more s))

abbrev pub RescuesFile : Type 0
RescuesFile = (s : List ℕ) → (rescue_answer s).refused ≡ 0 → Rescues s

-- "and a file already accepted keeps its bytes"; all records of its chain are kept
pub record Unchanged (s : List ℕ) : Type 0 where
  pub bytes : rescued s ≡ s
  pub all : kept_count s ≡ length (chain_of s)

abbrev pub AcceptedRescueKeeps : Type 0
AcceptedRescueKeeps = (s : List ℕ) → (read_plan s).refused ≡ 0 → Unchanged s
