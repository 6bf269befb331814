-- Adding a domain to a plan file (document 02, Point 4; Points 6 and 11 for its numbers).
-- Assumes nothing.
use Rattle.std.specs.Prelude.{ℕ, ◌+◌, ◌≡◌, ◌≢◌, List, [], ◌∷◌, ◌++◌, Bool, cond, not, ◌&&◌, eqb, leb, ltb}
use Rattle.table.specs.Members.{has, last_of}
use Rattle.table.specs.Ranges.{some_below, highest}
use Rattle.table.specs.Lines.{Line, first_of}
use Rattle.plan.specs.Value.{with_domain, above, above_cap, reserves, reserved_of, refusal, Refusal}
use Rattle.plan.specs.Records.{record_count, period_in, domain_record}
use Rattle.plan.specs.Chain.{no_number, chain_of, domains_in}
use Rattle.plan.specs.Reading.{accepted_reading, read_plan}
use Rattle.plan.specs.declared.value.Domain.{Domain}
use Rattle.edit.specs.Laying.{laid, rewritten, OnlyTwo}
use Rattle.edit.specs.Dropping.{numbers_in}
use Rattle.edit.specs.declared.adding.NewDomain.{NewDomain}

-- the domain that a call is given to add
abbrev pub asked : NewDomain → Domain
asked d =
    record {
      number = d.number;
      reservation = d.reservation;
      reclaimcap = d.reclaimcap;
      writebackcap = d.writebackcap;
      writebackreservation = d.writebackreservation;
      marked = d.marked;
    }

-- "Adding looks among the records from 1 up that are not on the chain": record k is one
unfoldable pub free : List ℕ → ℕ → Bool
free s k = leb 1 k && not (has k (chain_of s))

-- "the highest-numbered one"
abbrev pub new_record : List ℕ → ℕ
new_record s = highest (free s) (record_count s)

-- the last record of the chain, or record 0
abbrev pub last_record : List ℕ → ℕ
last_record s = last_of 0 (chain_of s)

-- "overwrites the highest-numbered one whole", with link 0, "and puts it last on the chain": what record k becomes
abbrev pub added_record : List ℕ → Domain → ℕ → List ℕ
added_record s d = rewritten s (last_record s) (new_record s) (new_record s) (domain_record 0 d)

-- "Adding then checks 6, 7, 9 and 10"; Point 6: 11 "right after" 9, and 10 sums both reservations. Of the domain, under the
-- period, whether its number is met, and the sum of what the chain's domains reserve.
abbrev pub domain_table : ℕ → Bool → ℕ → Domain → List (Line ℕ)
domain_table P met sum d =
    (no_number d.number, 6)
    ∷ (met, 7)
    ∷ (above P d.reservation d.reclaimcap d.writebackcap, 9)
    ∷ (above_cap d.writebackcap d.writebackreservation, 11)
    ∷ (ltb P (sum + reserves d), 10)
    ∷ []

unfoldable pub domain_refusal : List ℕ → Domain → ℕ
domain_refusal s d = first_of (domain_table (period_in s) (has d.number (numbers_in s)) (reserved_of (domains_in s)) d) 0

-- "Reading refusals come first"; "place 0 as for 71 and 72"; "71 every record from 1 up is on the chain, checked last on adding"
abbrev pub add_table : List ℕ → Domain → List (Line Refusal)
add_table s d =
    (not (eqb (read_plan s).refused 0), refusal (read_plan s).refused (read_plan s).place)
    ∷ (not (eqb (domain_refusal s d) 0), refusal (domain_refusal s d) 0)
    ∷ (not (some_below (free s) (record_count s)), refusal 71 0)
    ∷ []

unfoldable pub add_refusal : List ℕ → Domain → Refusal
add_refusal s d = first_of (add_table s d) (refusal 0 0)

-- What the file holds then. "A refused edit keeps every byte."
unfoldable pub added : List ℕ → Domain → List ℕ
added s d = cond (eqb (add_refusal s d).refused 0) (laid (added_record s d) s) s

abbrev pub RefusedAddKeeps : Type 0
RefusedAddKeeps = (s : List ℕ) (d : Domain) → (add_refusal s d).refused ≢ 0 → added s d ≡ s

-- What is read afterwards is the plan with that domain, the chain is the old one with the new record last, and two records
-- were touched.
pub record Adds (s : List ℕ) (d : Domain) : Type 0 where
  pub read : read_plan (added s d) ≡ accepted_reading (with_domain (read_plan s).plan d)
  pub chain : chain_of (added s d) ≡ chain_of s ++ (new_record s ∷ [])
  pub touched : OnlyTwo s (added s d) (new_record s) (last_record s)

abbrev pub AddsDomain : Type 0
AddsDomain = (s : List ℕ) (d : Domain) → (add_refusal s d).refused ≡ 0 → Adds s d
