-- A case: an input and its outcome, by the definitions that the calls promise to answer by.
-- Assumes nothing.
use Rattle.std.specs.Prelude.{ℕ, List, [], ◌∷◌, map, length, ℤ}
use Rattle.std.proofs.Math.Option.{Option}
use Rattle.plan.specs.Reading.{read_plan, read_with_leftovers, Reading}
use Rattle.plan.specs.Sums.{sums_told}
use Rattle.plan.specs.Writing.{write_plan, written, Writing}
use Rattle.plan.specs.declared.value.Plan.{Plan}
use Rattle.plan.specs.declared.chain.Sums.{Sums}
use Rattle.regulator.specs.Forecast.{next_estimate, need_of}
use Rattle.regulator.specs.Verdict.{loose}
use Rattle.regulator.specs.Calls.{open_plan, hand_of, Handing}
use Rattle.regulator.specs.declared.forecast.Estimate.{Estimate}
use Rattle.regulator.specs.declared.state.State.{State}
use Rattle.regulator.specs.declared.close.Counts.{Counts}
use Rattle.script.specs.Line.{Meaning, meaning_of, offers_in}
use Rattle.script.specs.Replay.{replay_text}
use Rattle.share.specs.Call.{Call}
use Rattle.share.specs.Run.{Made, made, run}

-- An input: a plan file that is read; one that is read by both rules; one whose sums are told; a plan value that is written to a lent
-- buffer; a plan file whose plan is opened, and calls from there on; the same, to see the states that they return; a call on a state
-- that is given; a plan handed in on such a state; a script line that is read, with a lent buffer; a plan file and a script of the
-- replay; a call on a state that is given, to see the state that it returns; an estimate at the close of a period with c access passes;
-- or one of which the need is asked.
pub data Input : Type 0 where
  file : (bytes : List ℕ) → Input
  both : (bytes : List ℕ) → Input
  summed : (bytes : List ℕ) → Input
  value : Plan → (buffer : List ℕ) → Input
  calls : (bytes : List ℕ) → List Call → Input
  through : (bytes : List ℕ) → List Call → Input
  given : State → Call → Input
  handed : State → Plan → Input
  line : (bytes buffer : List ℕ) → Input
  replayed : (bytes script : List ℕ) → Input
  stepped : State → Call → Input
  closing : Estimate → (c : ℕ) → Input
  needing : Estimate → (Q : ℕ) → Input

-- What is shown of a call: 0 or the number of a refusal, what the lent buffer holds on return, the idle slots and loose of the state
-- returned (loose before the next slot, that is), the counts told, and the steps.
pub record Shown : Type 0 where
  pub refused : ℕ
  pub verdicts : List ℕ
  pub idle : ℕ
  pub loose : ℤ
  pub counts : Option Counts
  pub steps : ℕ

-- An outcome: what reading answers; what it answers and what the earlier rule does; the sums told; what writing answers, and the
-- buffer; 0 or the number of a refusal of opening, and what is shown of each call, or its refusal and the whole state that it returns;
-- what handing in answers; what a line means, and the buffer; all that is printed; an estimate; or a need.
pub data Outcome : Type 0 where
  reading : Reading → Outcome
  readings : (now earlier : Reading) → Outcome
  sums : Sums → Outcome
  writing : Writing → (buffer : List ℕ) → Outcome
  answers : (refused : ℕ) → List Shown → Outcome
  returns : (refused : ℕ) → List (ℕ × State) → Outcome
  hands : Handing → Outcome
  meaning : Meaning → (buffer : List ℕ) → Outcome
  prints : List ℕ → Outcome
  estimate : Estimate → Outcome
  need : ℕ → Outcome

abbrev shown_of : Made → Shown
shown_of m =
    record { refused = m.refused; verdicts = m.shown; idle = m.state.idle; loose = loose m.state; counts = m.counts; steps = m.steps }

-- what the definitions give
unfoldable pub outcome_of : Input → Outcome
outcome_of (file bytes) = reading (read_plan bytes)
outcome_of (both bytes) = readings (read_plan bytes) (read_with_leftovers bytes)
outcome_of (summed bytes) = sums (sums_told bytes)
outcome_of (value p buffer) = writing (write_plan p (length buffer)) (written p buffer)
outcome_of (calls bytes cs) =
    let o = open_plan (read_plan bytes).plan in
    answers o.refused (map (λ (m : Made). shown_of m) (run o.state cs))
outcome_of (through bytes cs) =
    let o = open_plan (read_plan bytes).plan in
    returns o.refused (map (λ (m : Made). (m.refused, m.state)) (run o.state cs))
outcome_of (given s c) = answers 0 (shown_of (made s c) ∷ [])
outcome_of (handed s p) = hands (hand_of s p)
outcome_of (line bytes buffer) = meaning (meaning_of bytes) (offers_in bytes buffer)
outcome_of (replayed bytes script) = prints (replay_text bytes script)
outcome_of (stepped s c) = let m = made s c in returns 0 ((m.refused, m.state) ∷ [])
outcome_of (closing e c) = estimate (next_estimate e c)
outcome_of (needing e Q) = need (need_of e Q)

pub record Case : Type 0 where
  pub input : Input
  pub outcome : Outcome
