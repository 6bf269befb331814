-- A script that is taken part by part until the slot asked for is decided: what is kept between the parts, and what holds of it.
-- Assumes nothing.
use Rattle.std.specs.Prelude.{ℕ, ◌+◌, ◌≤◌, ◌<◌, ◌≡◌, List, ◌++◌, Bool, true, false, length, drop}
use Rattle.regulator.specs.State.{adds_up}
use Rattle.regulator.specs.Refusals.{slot_refusal}
use Rattle.script.specs.Text.{plan_refused_text}
use Rattle.script.specs.Replay.{split}
use Rattle.script.specs.Feeding.{unended}
use Rattle.question.specs.Slots.{decided_by, slot_at}
use Rattle.question.specs.Answer.{ask_refused_text, slot_text, found_text, why_text}
use Rattle.question.specs.declared.seeking.Stage.{Stage}
use Rattle.question.specs.declared.seeking.Stage.TheVariants.{Seeking, Found, AskRefused, PlanRefused}
use Rattle.question.specs.declared.seeking.Search.{Search}

-- the slot is still to be found, and it is found
abbrev pub goes_on : Stage → Bool
goes_on Seeking = true
goes_on Found = false
goes_on (AskRefused number) = false
goes_on (PlanRefused number place) = false

abbrev pub is_found : Stage → Bool
is_found Seeking = false
is_found Found = true
is_found (AskRefused number) = false
is_found (PlanRefused number place) = false

-- What is told for the rest of a script, at each stage of a search: it goes on; the slot is found; or it ended with a refusal.
abbrev pub stage_text : Stage → Search → (rest : List ℕ) → List ℕ
stage_text Seeking q rest = found_text (slot_at q.left (decided_by q.state (split rest).lines)) q.number
stage_text Found q rest = slot_text (record { given = q.state; offers = q.offers }) q.number
stage_text (AskRefused number) q rest = ask_refused_text number
stage_text (PlanRefused number place) q rest = plan_refused_text number place

unfoldable pub answer_text : Search → (rest : List ℕ) → List ℕ
answer_text q rest = stage_text q.stage q rest

-- A search that goes on has a state that adds up and a slot to find, and one that found it has offers that are not refused: so that no
-- line checks a state again.
pub record Sound (q : Search) : Type 0 where
  pub adds : goes_on q.stage ≡ true → adds_up q.state ≡ true
  pub some : goes_on q.stage ≡ true → 1 ≤ q.left
  pub found : is_found q.stage ≡ true → slot_refusal q.state q.offers 17 ≡ 0

-- From the search q to the search r by lines of a part of the script: whatever bytes follow this part, what is told stays the same.
pub record Sought (part : List ℕ) (q r : Search) : Type 0 where
  pub same : (later : List ℕ) → answer_text q (drop q.used part ++ later) ≡ answer_text r (drop r.used part ++ later)
  pub sound : Sound r
  pub within : r.used ≤ length part

-- It stopped where the search ended, or where what is left of the part has no byte 10 and fewer than 20 bytes.
pub record Seeks (part : List ℕ) (q r : Search) : Type 0 where
  pub same : (later : List ℕ) → answer_text q (drop q.used part ++ later) ≡ answer_text r (drop r.used part ++ later)
  pub sound : Sound r
  pub within : r.used ≤ length part
  pub lineless : goes_on r.stage ≡ true → (unended (drop r.used part) ≡ true) × (length part < r.used + 20)

-- The search at the start of a script: whatever the script is, what is told for all of it is all that is printed.
pub record Started (plan ask : List ℕ) (q : Search) : Type 0 where
  pub same : (script : List ℕ) → why_text plan ask script ≡ answer_text q script
  pub sound : Sound q
  pub none : q.used ≡ 0
