-- Rescues of plan A's neighbours, with the answer and the file afterwards, worked by hand from document 02, Point 14.
-- Assumes nothing.
use Rattle.std.specs.Prelude.{ℕ, ◌≡◌, List, [], ◌∷◌, ◌++◌, map, drop}
use Rattle.edit.specs.Rescue.{rescue_answer, rescued, Rescued}
use Rattle.edited.specs.Files.{head, record16, zero16, leftover, one, two, three, four, plan_a}

-- what a rescue answers, and the file afterwards
pub record Outcome : Type 0 where
  pub told : Rescued
  pub file : List ℕ

unfoldable pub outcome_of : List ℕ → Outcome
outcome_of s = record { told = rescue_answer s; file = rescued s }

pub record Case : Type 0 where
  pub file : List ℕ
  pub outcome : Outcome

-- a rescue that keeps n records, with the file that it makes; and one that is refused, which keeps every byte
abbrev saves : (s : List ℕ) (n : ℕ) (t : List ℕ) → Case
saves s n t = record { file = s; outcome = record { told = record { refused = 0; place = 0; kept = n }; file = t } }

abbrev draws : List ℕ → ℕ → Case
draws s n = record { file = s; outcome = record { told = record { refused = n; place = 0; kept = 0 }; file = s } }

-- domain 3 with Q 2, and a domain that reserves nothing
abbrev heavy : ℕ → List ℕ
heavy next = record16 next 3 0 2 0 0 0

abbrev light : ℕ → List ℕ
light next = record16 next 5 0 0 1 0 0

-- each fault: the link that names the record is 0 then, and not the link of that record; what stands behind it falls too
abbrev links : List Case
links =
    -- 4, behind the last record, in record 0, and by links to 64 and 65,535
    saves (head 4 1 ++ (one 2 ++ two 3)) 2 plan_a
    ∷ saves (head 4 3 ++ (one 2 ++ two 0)) 0 (head 4 0 ++ (zero16 ++ zero16))
    ∷ saves (head 4 1 ++ (one 2 ++ two 64)) 2 plan_a
    ∷ saves (head 4 1 ++ (one 2 ++ (255 ∷ 255 ∷ drop 2 (two 0)))) 2 plan_a
    -- 5: the record that is met twice stays, and all that the records kept state
    ∷ saves (head 4 1 ++ (one 2 ++ two 1)) 2 plan_a
    ∷ saves (head 4 2 ++ (four 2 ++ two 1)) 2 (head 4 2 ++ (four 0 ++ two 1))
    ∷ saves (head 4 2 ++ (one 0 ++ two 2)) 1 (head 4 2 ++ (zero16 ++ two 0))
    -- 6, with a good record behind it; 7, 8, 9 and 11
    ∷ saves (head 4 1 ++ (one 2 ++ (record16 3 0 0 1 0 0 0 ++ three 0))) 1 (head 4 1 ++ (one 0 ++ (zero16 ++ zero16)))
    ∷ saves (head 4 1 ++ (one 2 ++ record16 0 1 0 1 0 0 0)) 1 (head 4 1 ++ (one 0 ++ zero16))
    ∷ saves (head 4 2 ++ (two 3 ++ (one 1 ++ record16 0 3 2 1 0 0 0))) 2 (head 4 2 ++ (two 0 ++ (one 1 ++ zero16)))
    ∷ saves (head 4 1 ++ (one 2 ++ record16 0 2 0 5 0 0 0)) 1 (head 4 1 ++ (one 0 ++ zero16))
    ∷ saves (head 4 1 ++ (record16 2 4 0 0 0 1 2 ++ two 0)) 0 (head 4 0 ++ (zero16 ++ zero16))
    ∷ []

-- the sum of both reservations above P: by one, with a last record that reserves nothing, by the writeback reservation, and of
-- one record alone
abbrev sums : List Case
sums =
    saves (head 4 1 ++ (one 2 ++ (two 3 ++ heavy 0))) 2 (plan_a ++ zero16)
    ∷ saves (head 4 1 ++ (one 2 ++ (two 3 ++ (heavy 4 ++ light 0)))) 2 (plan_a ++ (zero16 ++ zero16))
    ∷ saves (head 4 1 ++ (one 2 ++ (two 3 ++ (three 4 ++ four 0)))) 3 (head 4 1 ++ (one 2 ++ (two 3 ++ (three 0 ++ zero16))))
    ∷ saves (head 4 1 ++ record16 0 4 0 4 0 1 1) 0 (head 4 0 ++ zero16)
    -- the link first, and then the sum of what is left: a bad record is not summed, and a fault does not hide the sum
    ∷ saves (head 4 1 ++ (one 2 ++ (two 3 ++ record16 0 17 0 2 0 0 0))) 2 (plan_a ++ zero16)
    ∷ saves (head 4 1 ++ (one 2 ++ (two 3 ++ (heavy 4 ++ light 1)))) 2 (plan_a ++ (zero16 ++ zero16))
    -- all three steps: 7 in the record behind `light 5`, then the sum, and a leftover
    ∷ saves
    (head 4 1 ++ (one 2 ++ (two 3 ++ (heavy 4 ++ (light 5 ++ (light 0 ++ three 0))))))
    2
    (plan_a ++ (zero16 ++ (zero16 ++ (zero16 ++ zero16))))
    ∷ []

-- leftovers, and files that are accepted already
abbrev others : List Case
others =
    saves (plan_a ++ (leftover ++ three 2)) 2 (plan_a ++ (zero16 ++ zero16))
    ∷ saves (head 4 0 ++ leftover) 0 (head 4 0 ++ zero16)
    ∷ saves plan_a 2 plan_a
    ∷ saves (plan_a ++ (zero16 ++ zero16)) 2 (plan_a ++ (zero16 ++ zero16))
    ∷ saves (head 4 1 ++ (one 2 ++ (two 3 ++ (three 4 ++ light 0)))) 4 (head 4 1 ++ (one 2 ++ (two 3 ++ (three 4 ++ light 0))))
    ∷ saves (head 4 0) 0 (head 4 0)
    -- 1 to 3 remain, whatever else is wrong
    ∷ draws [] 1
    ∷ draws (plan_a ++ (0 ∷ [])) 1
    ∷ draws (head 0 1 ++ (one 2 ++ two 1)) 2
    ∷ draws (4 ∷ 0 ∷ 1 ∷ 0 ∷ 7 ∷ drop 5 (head 4 1) ++ (one 2 ++ (two 1 ++ leftover))) 3
    ∷ []

abbrev cases : List Case
cases = links ++ (sums ++ others)

-- each rescue has its outcome
abbrev pub AllRescued : Type 0
AllRescued = map (λ (c : Case). outcome_of c.file) cases ≡ map (λ (c : Case). c.outcome) cases
