-- What the walk keeps and answers, read off the chain's definitions: the contracts of the code that follows a chain.
-- Assumes nothing.
use Rattle.std.specs.Prelude.{ℕ, ◌+◌, ◌-◌, Bool, cond, not, List, [], ◌∷◌, ◌++◌, length, set, replicate, eqb, ltb, Result, Ok, Err}
use Rattle.table.specs.Members.{has, last_of}
use Rattle.table.specs.Ranges.{values_below}
use Rattle.table.specs.Lines.{first_of}
use Rattle.plan.specs.Value.{no_domains, reserves, with_domain, plan_of, number, refusal_by}
use Rattle.plan.specs.Records.{period_in}
use Rattle.plan.specs.Chain.{link, fault, chain_of, domains_at, sums_at}
use Rattle.plan.specs.Reading.{head_table, refused_reading, accepted_reading, Reading}
use Rattle.plan.specs.declared.value.Domain.{Domain}
use Rattle.plan.specs.declared.chain.Sums.{Sums}
use Rattle.plan.specs.declared.chain.Gathered.{Gathered}
use Rattle.plan.specs.declared.chain.Way.{Way}
use Rattle.plan.specs.declared.refusal.Fault.{Fault}

-- Sums as an answer holds them: how many they are, and sixteen places with zeros behind the last.
abbrev pub sums_held : List ℕ → Sums
sums_held sums = record { records = length sums; told = sums ++ replicate (16 - length sums) 0 }

-- what the walk has gathered from the records of `chain`: the plan of their domains, the last sum told, and all sums told
abbrev pub gathered_at : List ℕ → List ℕ → Gathered
gathered_at s chain =
    record { plan = plan_of (period_in s) (domains_at s chain); sum = last_of 0 (sums_at s chain); sums = sums_held (sums_at s chain) }

-- and what it has with one sum more, and with one record more, whose domain is d
abbrev pub with_sum : Sums → ℕ → Sums
with_sum told sum = record { records = told.records + 1; told = set told.told told.records sum }

abbrev pub with_record : Gathered → Domain → Gathered
with_record g d =
    record { plan = with_domain g.plan d; sum = g.sum + reserves d; sums = with_sum g.sums (g.sum + reserves d) }

-- which of the 64 records that a file can have are those of `chain`
abbrev pub seen_at : List ℕ → List Bool
seen_at chain = values_below (λ (i : ℕ). has i chain) 64

-- The number of a fault, or 0 where there is none.
abbrev pub fault_number : Result Unit Fault → ℕ
fault_number (Ok _) = 0
fault_number (Err f) = number f

-- What the walk tells: the number of a refusal and its place, or 0 and 0; what was gathered before; the records taken.
pub record Walked : Type 0 where
  pub refused : ℕ
  pub place : ℕ
  pub gathered : Gathered
  pub seen : List Bool

-- What a call's answer says in these words.
abbrev pub walked_by : Way → Walked
walked_by w = record { refused = (refusal_by w.ended).refused; place = (refusal_by w.ended).place; gathered = w.gathered; seen = w.seen }

-- What the walk answers after the records of `chain`: refusal, place, plan, sums and flags are read off them. At the
-- chain's end the link is 0, and so is the place.
abbrev pub walked_at : List ℕ → List ℕ → Walked
walked_at s chain = record { refused = fault s chain; place = link s chain; gathered = gathered_at s chain; seen = seen_at chain }

abbrev pub walked_of : List ℕ → Walked
walked_of s = walked_at s (chain_of s)

-- the same where 1 to 3 refuse the file, with n: no link is followed
abbrev pub not_walked : ℕ → Walked
not_walked n = record { refused = n; place = 0; gathered = record { plan = no_domains 0; sum = 0; sums = sums_held [] }; seen = seen_at [] }

-- the way to the chain's end, for any bytes
unfoldable pub way_of : List ℕ → Walked
way_of s = let head = first_of (head_table s) 0 in cond (eqb head 0) (walked_of s) (not_walked head)

-- what reading by the earlier rule makes of it
abbrev pub walked_reading : Walked → Reading
walked_reading w =
    first_of
    ((not (eqb w.refused 0), refused_reading w.refused w.place)
    ∷ (ltb w.gathered.plan.period w.gathered.sum, refused_reading 10 0)
    ∷ [])
    (accepted_reading w.gathered.plan)
