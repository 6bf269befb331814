-- Questions about the runs of document 01 and of three plans more, with the line that answers each, worked by hand from the documents.
-- Assumes nothing.
use Rattle.std.specs.Prelude.{ℕ, zero, suc, ◌≡◌, List, [], ◌∷◌, ◌++◌, map, replicate}
use Rattle.script.specs.Text.{bytes}
use Rattle.question.specs.Answer.{why_text}

-- the bytes of record 0, whose chain begins at record 1, and of a domain record, `mark` in byte 3
abbrev head : (P : ℕ) → List ℕ
head P = P ∷ 0 ∷ 1 ∷ 0 ∷ replicate 12 0

abbrev domain : (next number mark Q R W reservation : ℕ) → List ℕ
domain next number mark Q R W reservation = next ∷ 0 ∷ number ∷ mark ∷ Q ∷ 0 ∷ R ∷ 0 ∷ W ∷ 0 ∷ reservation ∷ 0 ∷ replicate 4 0

-- plan A: P 4; domain 1 has Q 2, R 1, W 4; domain 2 has Q 1, R 0, W 0
abbrev plan_a : List ℕ
plan_a = head 4 ++ (domain 2 1 0 2 1 4 0 ++ domain 0 2 0 1 0 0 0)

-- P 4; domain 1 has Q 1, R 1, W 2 and a writeback reservation of 1; domain 2 has Q 1
abbrev plan_writing : List ℕ
plan_writing = head 4 ++ (domain 2 1 0 1 1 2 1 ++ domain 0 2 0 1 0 0 0)

-- P 6; domain 1 has Q 1, R 3; domain 2 has Q 2, R 2
abbrev plan_yielding : List ℕ
plan_yielding = head 6 ++ (domain 2 1 0 1 3 0 0 ++ domain 0 2 0 2 2 0 0)

-- P 6; domain 1 has Q 4, R 1 and a mark; domain 2 has Q 1, R 3
abbrev plan_marked : List ℕ
plan_marked = head 6 ++ (domain 2 1 1 4 1 0 0 ++ domain 0 2 0 1 3 0 0)

-- slot lines in which 0, 1 and 2 offer, and with fewer offers; and lines one behind the other
abbrev all : List ℕ
all = bytes "s 11100000000000000\n"

abbrev one : List ℕ
one = bytes "s 01000000000000000\n"

abbrev two : List ℕ
two = bytes "s 00100000000000000\n"

abbrev nobody : List ℕ
nobody = bytes "s 00000000000000000\n"

abbrev writes : List ℕ
writes = bytes "s 02000000000000000\n"

abbrev times : ℕ → List ℕ → List ℕ → List ℕ
times zero line more = more
times (suc n) line more = line ++ times n line more

-- document 01's script on plan A
abbrev run : List ℕ
run = times 4 all (bytes "y 1 1\n" ++ times 3 all one)

-- case h, case i, and case k
abbrev alone : List ℕ
alone = times 3 one []

abbrev late : List ℕ
late = times 2 nobody (bytes "s 10100000000000000\n")

abbrev capped : List ℕ
capped = bytes "s 00200000000000000\n"

-- both domains yield, and domain 1 reclaims it all
abbrev yielding : List ℕ
yielding = bytes "y 2 1\ny 1 1\n" ++ times 3 one []

-- domain 1 passes twice in the first period, so that it yields 2 by forecast in the second, where domain 2 reclaims them
abbrev forecasting : List ℕ
forecasting = times 2 one (times 4 nobody (times 4 two []))

-- A question: the file `plan`, the file `ask`, the script, and the line that answers it.
pub record Asked : Type 0 where
  pub plan : List ℕ
  pub ask : List ℕ
  pub script : List ℕ
  pub line : List ℕ

abbrev of : (plan script ask line : List ℕ) → Asked
of plan script ask line = record { plan = plan; ask = ask; script = script; line = line }

abbrev questions : List Asked
questions =
    -- the first period of the run, case g: "1 2 2; 6 1 2; 6 2 1; 6 1 4"
    of plan_a run (bytes "1 0\n") (bytes "1 neither\n")
    ∷ of plan_a run (bytes "1 1\n") (bytes "2 0\n")
    ∷ of plan_a run (bytes "2 0\n") (bytes "6 0 1\n")
    ∷ of plan_a run (bytes "2 1\n") (bytes "1 claim\n")
    ∷ of plan_a run (bytes "3 1\n") (bytes "2 2\n")
    ∷ of plan_a run (bytes "3 2\n") (bytes "1 claim\n")
    ∷ of plan_a run (bytes "4 2\n") (bytes "4 0\n")
    -- the second, behind a yield: slot 6 is line 7, and slot 8 the last of the period
    ∷ of plan_a run (bytes "5 0\n") (bytes "2 2\n")
    ∷ of plan_a run (bytes "6 1\n") (bytes "2 0\n")
    ∷ of plan_a run (bytes "8 1\n") (bytes "1 stock\n")
    ∷ of plan_a run (bytes "8 2\n") (bytes "0\n")
    -- case h, "then 5"; case i, "loose is −1"; case k, "domain 2 offers a writeback: 3"
    ∷ of plan_a alone (bytes "3 1\n") (bytes "5 0 0\n")
    ∷ of plan_a late (bytes "3 0\n") (bytes "6 -1 2\n")
    ∷ of plan_a capped (bytes "1 2\n") (bytes "3 0\n")
    -- Point 6: a writeback on writeback claim, one without, and one at the cap; the last two without a reservation too
    ∷ of plan_writing (times 3 writes []) (bytes "1 1\n") (bytes "1 claim\n")
    ∷ of plan_writing (times 3 writes []) (bytes "2 1\n") (bytes "1 neither\n")
    ∷ of plan_writing (times 3 writes []) (bytes "3 1\n") (bytes "3 2\n")
    ∷ of plan_a writes (bytes "1 1\n") (bytes "1 neither\n")
    -- the totals are of all domains, and yields by forecast are among them
    ∷ of plan_yielding yielding (bytes "3 1\n") (bytes "5 2 2\n")
    ∷ of plan_marked forecasting (bytes "10 2\n") (bytes "5 2 2\n")
    -- 63 first: `ask` is malformed, also where the plan is refused or the slot is not decided
    ∷ of plan_a run (bytes "1 1") (bytes "ask refused 63\n")
    ∷ of plan_a run (bytes "1  1\n") (bytes "ask refused 63\n")
    ∷ of plan_a run (bytes "1 1\n\n") (bytes "ask refused 63\n")
    ∷ of plan_a run (bytes "1234567890 1\n") (bytes "ask refused 63\n")
    ∷ of plan_a run (bytes "9 001\n") (bytes "ask refused 63\n")
    ∷ of [] run [] (bytes "ask refused 63\n")
    -- then the plan
    ∷ of [] run (bytes "0 17\n") (bytes "plan refused 1 at 0\n")
    -- then 61: slot 0, one behind the last, at a line that is refused, and at a last part without byte 10
    ∷ of plan_a run (bytes "0 1\n") (bytes "ask refused 61\n")
    ∷ of plan_a run (bytes "9 17\n") (bytes "ask refused 61\n")
    ∷ of plan_a (all ++ (bytes "s 30000000000000000\n" ++ all)) (bytes "2 0\n") (bytes "ask refused 61\n")
    ∷ of plan_a (bytes "s 11100000000000000") (bytes "1 0\n") (bytes "ask refused 61\n")
    -- last 62: a number that is not planned, and one that is none
    ∷ of plan_a run (bytes "1 3\n") (bytes "ask refused 62\n")
    ∷ of plan_a run (bytes "8 99\n") (bytes "ask refused 62\n")
    -- leading zeros; and a line behind the slot is not looked at
    ∷ of plan_a run (bytes "000000002 01\n") (bytes "1 claim\n")
    ∷ of plan_a (all ++ bytes "?\n") (bytes "1 2\n") (bytes "2 0\n")
    ∷ []

-- each question has its answer
abbrev pub Answered : Type 0
Answered = map (λ (q : Asked). why_text q.plan q.ask q.script) questions ≡ map (λ (q : Asked). q.line) questions
