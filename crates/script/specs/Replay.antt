-- The replay (document 01, 'The replay program'): all that it prints, from the bytes of the plan file and of the script.
-- Assumes nothing.
use Rattle.std.specs.Prelude.{ℕ, ◌+◌, List, [], ◌∷◌, ◌++◌, cond, length, eqb, ◌≡◌, Result, Ok, Err}
use Rattle.plan.specs.Value.{number}
use Rattle.plan.specs.Reading.{read_plan}
use Rattle.plan.specs.declared.refusal.Refused.{Refused}
use Rattle.regulator.specs.Calls.{open_plan, slot_of, yield_of}
use Rattle.regulator.specs.declared.state.State.{State}
use Rattle.script.specs.Line.{Meaning, slot_line, yield_line, bad_line, meaning_of}
use Rattle.script.specs.Text.{header, period_text, open_text, plan_refused_text, line_refused_text}

-- "A script line .. ends with byte 10": the lines of a script, without it, and the last part, which is not ended by one
pub record Script : Type 0 where
  pub lines : List (List ℕ)
  pub last : List ℕ

-- a byte before a script, which is not byte 10: it belongs to the first line, or to the last part where there is no line
abbrev pub ahead : ℕ → List (List ℕ) → List ℕ → Script
ahead b [] last = record { lines = []; last = b ∷ last }
ahead b (line ∷ lines) last = record { lines = (b ∷ line) ∷ lines; last = last }

-- each byte 10 ends a line
unfoldable pub split : List ℕ → Script
split [] = record { lines = []; last = [] }
split (b ∷ bs) =
    let s = split bs in
    cond (eqb b 10) (record { lines = [] ∷ s.lines; last = s.last }) (ahead b s.lines s.last)

-- what a line does: 0 or the number of its refusal, the state after it, and what is printed for a period that it closed
pub record Done : Type 0 where
  pub refused : ℕ
  pub state : State
  pub prints : List ℕ

-- A slot line is a slot call, with a verdict buffer of 17, and a yield line a yield. "its number from 1": how many periods are closed
-- with it.
unfoldable pub carried_out : State → Meaning → Done
carried_out s (slot_line offers) =
    let a = slot_of s offers 17 in
    record {
      refused = a.refused;
      state = a.state;
      prints = cond a.complete (period_text s.plan a.state.closed a.counts) [];
    }
carried_out s (yield_line domain k) = record { refused = (yield_of s domain k).refused; state = (yield_of s domain k).state; prints = [] }
carried_out s (bad_line number) = record { refused = number; state = s; prints = [] }

-- What opening a plan file answers: the state that the plan starts with; or the number of its refusal, and the place.
abbrev pub Opened : (plan : List ℕ) → Result State Refused → Type 0
Opened plan (Ok s) = ((read_plan plan).refused ≡ 0) × (s ≡ (open_plan (read_plan plan).plan).state)
Opened plan (Err e) = ((read_plan plan).refused ≡ number e.fault) × ((read_plan plan).place ≡ e.place)

-- What is printed from line L on, in a state. "A refused line prints `line L refused N` (L from 1) after what stands printed and ends the
-- run without `open`." "A last part without byte 10 is refused with 41." (An empty last part is none.)
unfoldable pub lines_text : State → ℕ → List (List ℕ) → List ℕ → List ℕ
lines_text s L [] last = cond (eqb (length last) 0) (open_text s.decided) (line_refused_text L 41)
lines_text s L (line ∷ lines) last =
    let d = carried_out s (meaning_of line) in
    cond (eqb d.refused 0) (d.prints ++ lines_text d.state (L + 1) lines last) (line_refused_text L d.refused)

-- All of the output. "A refused plan prints only `plan refused N at K`." (A plan that reading accepts is not refused by opening:
-- `ReadIsAccepted` of plan/specs/RoundTrip.antt.)
unfoldable pub replay_text : List ℕ → List ℕ → List ℕ
replay_text plan script =
    let r = read_plan plan in
    cond (eqb r.refused 0)
    (header ++ lines_text (open_plan r.plan).state 1 (split script).lines (split script).last)
    (plan_refused_text r.refused r.place)
