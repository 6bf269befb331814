-- The second engine (document 02, Point 12): what a slot call by masks answers, and that it answers as the first engine does.
-- Assumes nothing.
use Rattle.std.specs.Prelude.{ℕ, ◌≡◌, List, cond, length, set, eqb}
use Rattle.regulator.specs.Turn.{distance, rulings}
use Rattle.regulator.specs.Grant.{grant, onward}
use Rattle.regulator.specs.Close.{without_counts, ended, Answer}
use Rattle.regulator.specs.Refusals.{slot_refusal}
use Rattle.regulator.specs.Calls.{slot_of, verdicts_in}
use Rattle.regulator.specs.declared.state.State.{State}
use Rattle.engine.specs.Masks.{passing_mask, lowest_bit}

-- it "grants the lowest set bit at or after the turn, or else the lowest of all"
abbrev pub granted_by_mask : State → List ℕ → ℕ
granted_by_mask s offers = lowest_bit (passing_mask s offers) s.turn

-- its steps, from the number and the turn
abbrev pub steps_by_mask : State → List ℕ → ℕ
steps_by_mask s offers = distance s.turn (granted_by_mask s offers)

-- One slot by masks: all but the number and its steps is the first engine's.
abbrev pub one_slot_by_mask : State → List ℕ → Answer
one_slot_by_mask s offers =
    let n = granted_by_mask s offers in
    let k = steps_by_mask s offers in
    ended (onward (grant s offers n) n k) k

-- What a slot call by masks answers, and what its lent buffer holds on return.
unfoldable pub slot_by_mask : State → List ℕ → (room : ℕ) → Answer
slot_by_mask s offers room =
    let r = slot_refusal s offers room in
    cond (eqb r 0) (one_slot_by_mask s offers) (without_counts r s 0)

unfoldable pub verdicts_by_mask : State → List ℕ → (buffer : List ℕ) → List ℕ
verdicts_by_mask s offers buffer =
    cond (eqb (slot_refusal s offers (length buffer)) 0) (set (rulings s offers) (granted_by_mask s offers) 1) buffer

-- "It is proved to answer as the first engine on every state and offers, refusals included": the theorem `answers_alike` of
-- proofs/Laws/Alike.antt.
abbrev pub AnswersAlike : Type 0
AnswersAlike =
    (s : State) (offers buffer : List ℕ)
    → (slot_by_mask s offers (length buffer) ≡ slot_of s offers (length buffer))
    × (verdicts_by_mask s offers buffer ≡ verdicts_in s offers buffer)
