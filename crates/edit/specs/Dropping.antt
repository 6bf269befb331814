-- Dropping a domain from a plan file (document 02, Point 4).
-- Assumes nothing.
use Rattle.std.specs.Prelude.{ℕ, ◌-◌, ◌≡◌, ◌≢◌, List, [], ◌∷◌, map, false, cond, not, set, eqb}
use Rattle.table.specs.Sums.{nth}
use Rattle.table.specs.Members.{has, place_in, without}
use Rattle.table.specs.Lines.{Line, first_of}
use Rattle.plan.specs.Value.{refusal, Refusal}
use Rattle.plan.specs.Records.{number_at}
use Rattle.plan.specs.Chain.{link_of, chain_of}
use Rattle.plan.specs.Reading.{accepted_reading, read_plan}
use Rattle.plan.specs.declared.value.Plan.{Plan}
use Rattle.edit.specs.Laying.{laid, blank, rewritten, OnlyTwo}

-- the domain numbers of a file's chain, in chain order
abbrev pub numbers_in : List ℕ → List ℕ
numbers_in s = map (number_at s) (chain_of s)

-- the record of domain n; and the record that names it: the one before it on the chain, or record 0
abbrev pub holder : List ℕ → ℕ → ℕ
holder s n = nth (chain_of s) (place_in n (numbers_in s))

abbrev pub namer : List ℕ → ℕ → ℕ
namer s n = nth (0 ∷ chain_of s) (place_in n (numbers_in s))

-- "Dropping joins the chain over the record and zeroes it.": what record k becomes
abbrev pub dropped_record : List ℕ → ℕ → ℕ → List ℕ
dropped_record s n = rewritten s (namer s n) (link_of s (holder s n)) (holder s n) blank

-- "Reading refusals come first"; "72 the domain to drop is not on the chain, checked after reading", place 0
abbrev pub drop_table : List ℕ → ℕ → List (Line Refusal)
drop_table s n =
    (not (eqb (read_plan s).refused 0), refusal (read_plan s).refused (read_plan s).place)
    ∷ (not (has n (numbers_in s)), refusal 72 0)
    ∷ []

unfoldable pub drop_refusal : List ℕ → ℕ → Refusal
drop_refusal s n = first_of (drop_table s n) (refusal 0 0)

-- What the file holds then. "A refused edit keeps every byte."
unfoldable pub dropped : List ℕ → ℕ → List ℕ
dropped s n = cond (eqb (drop_refusal s n).refused 0) (laid (dropped_record s n) s) s

abbrev pub RefusedDropKeeps : Type 0
RefusedDropKeeps = (s : List ℕ) (n : ℕ) → (drop_refusal s n).refused ≢ 0 → dropped s n ≡ s

-- a plan without domain n
abbrev pub without_domain : Plan → ℕ → Plan
without_domain p n =
    record {
      period = p.period;
      planned = set p.planned (n - 1) false;
      reservation = set p.reservation (n - 1) 0;
      reclaimcap = set p.reclaimcap (n - 1) 0;
      writebackcap = set p.writebackcap (n - 1) 0;
      writebackreservation = set p.writebackreservation (n - 1) 0;
      marked = set p.marked (n - 1) false;
    }

-- What is read afterwards is the plan without that domain, the chain is the old one without its record, and two records
-- were touched.
pub record Drops (s : List ℕ) (n : ℕ) : Type 0 where
  pub read : read_plan (dropped s n) ≡ accepted_reading (without_domain (read_plan s).plan n)
  pub chain : chain_of (dropped s n) ≡ without (holder s n) (chain_of s)
  pub touched : OnlyTwo s (dropped s n) (holder s n) (namer s n)

abbrev pub DropsDomain : Type 0
DropsDomain = (s : List ℕ) (n : ℕ) → (drop_refusal s n).refused ≡ 0 → Drops s n
