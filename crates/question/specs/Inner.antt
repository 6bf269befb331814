-- What the functions inside the crate promise each other. No contract of a public function cites this.
-- Assumes nothing.
use Rattle.std.specs.Prelude.{ℕ, ◌-◌, List, cond, Option, Some, None, replicate, eqb}
use Rattle.regulator.specs.Calls.{slot_of, yield_of}
use Rattle.regulator.specs.declared.state.State.{State}
use Rattle.script.specs.Line.{Meaning, slot_line, yield_line, bad_line}
use Rattle.question.specs.Ask.{Question, asks, malformed}
use Rattle.question.specs.declared.ask.Asked.{Asked}
use Rattle.question.specs.declared.seeking.Stage.{Stage}
use Rattle.question.specs.declared.seeking.Stage.TheVariants.{Seeking, Found, AskRefused}
use Rattle.question.specs.declared.seeking.Search.{Search}

-- the document's words for what the reader answers
abbrev pub asked_by : Option Asked → Question
asked_by None = malformed
asked_by (Some a) = asks a.slot a.number

-- The stage before the first line, of a plan that is not refused: no script decides slot 0.
unfoldable pub first_stage : (slot : ℕ) → Stage
first_stage slot = cond (eqb slot 0) (AskRefused 61) Seeking

-- the search before the first line
abbrev pub begun : Stage → State → (slot number : ℕ) → Search
begun stage s slot number = record { stage = stage; state = s; offers = replicate 17 0; left = slot; number = number; used = 0 }

-- a search that ended with a refusal, one that found its slot, and one that goes on behind a line
abbrev pub over : Search → Stage → Search
over q stage = record { stage = stage; state = q.state; offers = q.offers; left = q.left; number = q.number; used = q.used }

abbrev pub found : Search → List ℕ → Search
found q offers = record { stage = Found; state = q.state; offers = offers; left = q.left; number = q.number; used = q.used }

abbrev pub onward : Search → State → (left used : ℕ) → Search
onward q s left used = record { stage = Seeking; state = s; offers = q.offers; left = left; number = q.number; used = used }

-- The search behind a line; `next` is the place behind it. A line that is refused ends the run: the slot is not decided.
unfoldable pub search_after : Search → Meaning → (next : ℕ) → Search
search_after q (slot_line offers) next =
    let a = slot_of q.state offers 17 in
    cond (eqb a.refused 0) (cond (eqb q.left 1) (found q offers) (onward q a.state (q.left - 1) next)) (over q (AskRefused 61))
search_after q (yield_line domain k) next =
    let y = yield_of q.state domain k in
    cond (eqb y.refused 0) (onward q y.state q.left next) (over q (AskRefused 61))
search_after q (bad_line number) next = over q (AskRefused 61)
