-- Edits of plan A of document 01 and of its neighbours, with the answer and the file afterwards, worked by hand from the documents.
-- Assumes nothing.
use Rattle.std.specs.Prelude.{ℕ, ◌≡◌, List, [], ◌∷◌, ◌++◌, map, true, false}
use Rattle.plan.specs.Value.{refusal, Refusal}
use Rattle.plan.specs.declared.value.Domain.{Domain}
use Rattle.edit.specs.Dropping.{drop_refusal, dropped}
use Rattle.edit.specs.Adding.{add_refusal, added}
use Rattle.edit.specs.Compaction.{compact_refusal, compacted}
use Rattle.edited.specs.Files.{head, record16, zero16, leftover, one, two, three, four, plan_a}

-- a domain to add that is not marked, and domains 3 and 4
abbrev domain : (number Q R W reservation : ℕ) → Domain
domain number Q R W reservation =
    record { number = number; reservation = Q; reclaimcap = R; writebackcap = W; writebackreservation = reservation; marked = false }

abbrev domain3 : Domain
domain3 = domain 3 1 0 2 0

abbrev domain4 : Domain
domain4 = record { number = 4; reservation = 0; reclaimcap = 4; writebackcap = 1; writebackreservation = 1; marked = true }

-- An edit: a domain is dropped, a domain is added, or the file is compacted.
pub data Edit : Type 0 where
  drop : ℕ → Edit
  add : Domain → Edit
  compact : Edit

-- what it answers, and the file afterwards
pub record Outcome : Type 0 where
  pub told : Refusal
  pub file : List ℕ

unfoldable pub outcome_of : List ℕ → Edit → Outcome
outcome_of s (drop n) = record { told = drop_refusal s n; file = dropped s n }
outcome_of s (add d) = record { told = add_refusal s d; file = added s d }
outcome_of s compact = record { told = compact_refusal s; file = compacted s }

pub record Case : Type 0 where
  pub file : List ℕ
  pub edit : Edit
  pub outcome : Outcome

-- an edit that is not refused, with the file that it makes; and one that is, which keeps every byte
abbrev makes : List ℕ → Edit → List ℕ → Case
makes s e t = record { file = s; edit = e; outcome = record { told = refusal 0 0; file = t } }

abbrev draws : List ℕ → Edit → (number place : ℕ) → Case
draws s e n place = record { file = s; edit = e; outcome = record { told = refusal n place; file = s } }

-- the first record of a chain, the last, the only one, and one in the middle of a chain that is out of order
abbrev drops : List Case
drops =
    makes plan_a (drop 1) (head 4 2 ++ (zero16 ++ two 0))
    ∷ makes plan_a (drop 2) (head 4 1 ++ (one 0 ++ zero16))
    ∷ makes (head 4 1 ++ one 0) (drop 1) (head 4 0 ++ zero16)
    ∷ makes (head 4 3 ++ (one 2 ++ (three 0 ++ two 1))) (drop 1) (head 4 3 ++ (zero16 ++ (three 0 ++ two 2)))
    -- 72: a domain that is not on the chain, and numbers that no domain has; 257 is not 1
    ∷ draws plan_a (drop 3) 72 0
    ∷ draws plan_a (drop 0) 72 0
    ∷ draws plan_a (drop 257) 72 0
    -- refusals of reading come first, with their places, 12 among them
    ∷ draws (head 4 1 ++ (one 2 ++ two 1)) (drop 3) 5 1
    ∷ draws (plan_a ++ (zero16 ++ leftover)) (drop 3) 12 4
    ∷ []

-- the highest of three free records, one between the chain's, the first of a chain, and a domain with all that a record can state
abbrev adds : List Case
adds =
    makes (plan_a ++ (zero16 ++ (zero16 ++ zero16))) (add domain3) (head 4 1 ++ (one 2 ++ (two 5 ++ (zero16 ++ (zero16 ++ three 0)))))
    ∷ makes (head 4 1 ++ (one 3 ++ (zero16 ++ two 0))) (add domain3) (head 4 1 ++ (one 3 ++ (three 0 ++ two 2)))
    ∷ makes (head 4 0 ++ (zero16 ++ zero16)) (add domain3) (head 4 2 ++ (zero16 ++ three 0))
    ∷ makes (plan_a ++ zero16) (add domain4) (head 4 1 ++ (one 2 ++ (two 3 ++ four 0)))
    -- 6, 7, 9, 11, 10 and 71 in this order, each but 71 also with a later fault, all at place 0; nothing is cut
    ∷ draws (plan_a ++ zero16) (add (domain 0 1 0 0 0)) 6 0
    ∷ draws (plan_a ++ zero16) (add (domain 17 5 0 0 0)) 6 0
    ∷ draws (plan_a ++ zero16) (add (domain 258 1 0 0 0)) 6 0
    ∷ draws (plan_a ++ zero16) (add (domain 2 5 0 0 0)) 7 0
    ∷ draws (plan_a ++ zero16) (add (domain 3 5 0 0 1)) 9 0
    ∷ draws (plan_a ++ zero16) (add (domain 3 65537 0 0 0)) 9 0
    ∷ draws (plan_a ++ zero16) (add (domain 3 2 0 0 1)) 11 0
    ∷ draws plan_a (add (domain 3 1 0 1 1)) 10 0
    ∷ draws plan_a (add domain3) 71 0
    ∷ draws (head 4 0) (add domain3) 71 0
    -- refusals of reading come first
    ∷ draws (plan_a ++ leftover) (add (domain 0 1 0 0 0)) 12 3
    ∷ []

-- a chain that runs backwards over leftovers, one with marks and writeback reservations, an empty one, and one that is in front already
abbrev compactions : List Case
compactions =
    makes (head 4 3 ++ (one 0 ++ (leftover ++ two 1))) compact (head 4 1 ++ (two 2 ++ (one 0 ++ zero16)))
    ∷ makes (head 9 4 ++ (zero16 ++ (three 0 ++ (zero16 ++ four 2)))) compact (head 9 1 ++ (four 2 ++ (three 0 ++ (zero16 ++ zero16))))
    ∷ makes (head 4 0 ++ (leftover ++ leftover)) compact (head 4 0 ++ (zero16 ++ zero16))
    ∷ makes plan_a compact plan_a
    -- the refusals of the earlier rule, and no other
    ∷ draws (head 4 1 ++ (one 2 ++ two 1)) compact 5 1
    ∷ draws (head 2 1 ++ (one 2 ++ (two 0 ++ leftover))) compact 9 1
    ∷ draws (head 4 1 ++ (one 2 ++ (two 3 ++ (leftover ++ record16 0 3 0 2 0 0 0)))) compact 6 3
    ∷ draws (head 4 1 ++ (one 2 ++ (two 4 ++ (leftover ++ record16 0 3 0 2 0 0 0)))) compact 10 0
    ∷ []

-- one edit after the other: to plan A with two spare records domain 3 is added, domain 1 is dropped, and the rest is compacted
abbrev in_turn : List Case
in_turn =
    makes (plan_a ++ (zero16 ++ zero16)) (add domain3) (head 4 1 ++ (one 2 ++ (two 4 ++ (zero16 ++ three 0))))
    ∷ makes (head 4 1 ++ (one 2 ++ (two 4 ++ (zero16 ++ three 0)))) (drop 1) (head 4 2 ++ (zero16 ++ (two 4 ++ (zero16 ++ three 0))))
    ∷ makes (head 4 2 ++ (zero16 ++ (two 4 ++ (zero16 ++ three 0)))) compact (head 4 1 ++ (two 2 ++ (three 0 ++ (zero16 ++ zero16))))
    ∷ []

abbrev cases : List Case
cases = drops ++ (adds ++ (compactions ++ in_turn))

-- each edit has its outcome
abbrev pub Edited : Type 0
Edited = map (λ (c : Case). outcome_of c.file c.edit) cases ≡ map (λ (c : Case). c.outcome) cases
