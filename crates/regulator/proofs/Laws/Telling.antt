-- What a fault of a call says: the refusal of its number, so the answer of a call that is refused.
-- Assumes nothing.
use mathlib.Core.Path.{◌≡◌, refl, sym, ap, ◌∙◌}
use mathlib.Core.Logic.{◌≢◌}
use mathlib.Core.List.{List}
use Prim.Native.Nat.{ℕ}
use native.Mathlib.Omega.{arith}
use lib.Dec.{eqb}
use lib.ListN.{length}
use borrow.Author.Tests.{ne_eqb}
use Rattle.std.specs.Prelude.{Option, Some, None, Result, Ok, Err, is_ok}
use Rattle.plan.specs.Value.{number, refusal, Refusal, refusal_by, plan_refusal}
use Rattle.plan.specs.declared.value.Plan.{Plan}
use Rattle.plan.specs.declared.refusal.Refused.{Refused}
use Rattle.plan.specs.declared.refusal.Fault.{Fault}
use Rattle.plan.specs.declared.refusal.Fault.TheVariants.{Length, Period, Head, NoRecord, RecordAgain, NoNumber, NumberAgain, Unlisted, AbovePeriod, Sum, AboveCap, Leftover, Room}
use Rattle.regulator.specs.Close.{without_counts, told_slot, slot_by, Answer}
use Rattle.regulator.specs.Refusals.{slot_number, slot_refusal, yield_number, yield_refusal, hand_refusal_by, hand_refusal}
use Rattle.regulator.specs.Calls.{slot_of, verdicts_in, yield_of, hand_of, Yielding}
use Rattle.regulator.specs.declared.state.State.{State}
use Rattle.regulator.specs.declared.close.Counts.{Counts}
use Rattle.regulator.specs.declared.close.Slot.{Slot}
use Rattle.regulator.specs.declared.faults.SlotFault.{SlotFault}
use Rattle.regulator.specs.declared.faults.YieldFault.{YieldFault}
use Rattle.regulator.specs.declared.faults.HandFault.{HandFault}
use Rattle.regulator.proofs.Laws.Deciding.{answered, slot_number as number_told, slot_refused, shown_refused, yield_refused, hand_refused}

-- no fault has the number 0, which says that nothing is refused
pub slot_numbered : (e : SlotFault) → slot_number e ≢ 0
slot_numbered SlotFault.Unsound z = absurd (omega arith)
slot_numbered SlotFault.LastPeriod z = absurd (omega arith)
slot_numbered SlotFault.Length z = absurd (omega arith)
slot_numbered SlotFault.AboveTwo z = absurd (omega arith)
slot_numbered SlotFault.Unplanned z = absurd (omega arith)

pub yield_numbered : (e : YieldFault) → yield_number e ≢ 0
yield_numbered YieldFault.Unsound z = absurd (omega arith)
yield_numbered YieldFault.LastPeriod z = absurd (omega arith)
yield_numbered YieldFault.NoDomain z = absurd (omega arith)
yield_numbered YieldFault.Nothing z = absurd (omega arith)
yield_numbered YieldFault.AboveClaim z = absurd (omega arith)

numbered : (e : Fault) → number e ≢ 0
numbered Length z = absurd (omega arith)
numbered Period z = absurd (omega arith)
numbered Head z = absurd (omega arith)
numbered NoRecord z = absurd (omega arith)
numbered RecordAgain z = absurd (omega arith)
numbered NoNumber z = absurd (omega arith)
numbered NumberAgain z = absurd (omega arith)
numbered Unlisted z = absurd (omega arith)
numbered AbovePeriod z = absurd (omega arith)
numbered Sum z = absurd (omega arith)
numbered AboveCap z = absurd (omega arith)
numbered Leftover z = absurd (omega arith)
numbered Room z = absurd (omega arith)

pub hand_numbered : (e : HandFault) → (hand_refusal_by e).refused ≢ 0
hand_numbered HandFault.Unsound z = absurd (omega arith)
hand_numbered HandFault.LastPeriod z = absurd (omega arith)
hand_numbered (HandFault.Plan e) z = numbered e.fault z

-- a plan is accepted just where its check tells the number 0
pub accepted_told : {T : Type 0} (p : Plan) (r : Result T Refused) → refusal_by r ≡ plan_refusal p → is_ok r ≡ eqb (plan_refusal p).refused 0
accepted_told p (Ok _) h = ap (λ (r : Refusal). eqb r.refused 0) h
accepted_told p (Err e) h = sym (ne_eqb (number e.fault) 0 (numbered e.fault)) ∙ ap (λ (r : Refusal). eqb r.refused 0) h

pub plan_refused : (p : Plan) (e : Refused) → refusal (number e.fault) e.place ≡ plan_refusal p → (plan_refusal p).refused ≢ 0
plan_refused p e h z = numbered e.fault (ap (λ (r : Refusal). r.refused) h ∙ z)

module _ (s : State) (o : List ℕ) where
  pub slot_told : (room : ℕ) (e : SlotFault) → slot_number e ≡ slot_refusal s o room → without_counts (slot_number e) s 0 ≡ slot_of s o room
  slot_told room e h = ap (λ (n : ℕ). without_counts n s 0) h ∙ sym (slot_refused s o room (λ z. slot_numbered e (h ∙ z)))

  pub shown_told : (b : List ℕ) (e : SlotFault) → slot_number e ≡ slot_refusal s o (length b) → b ≡ verdicts_in s o b
  shown_told b e h = sym (shown_refused s o b (λ z. slot_numbered e (h ∙ z)))

pub yield_told : (s : State) (d k : ℕ) (e : YieldFault) → yield_number e ≡ yield_refusal s d k → record { refused = yield_number e; state = s } ≡ yield_of s d k
yield_told s d k e h =
    let told : ℕ → Yielding = λ n. record { refused = n; state = s } in
    ap told h ∙ sym (yield_refused s d k (λ z. yield_numbered e (h ∙ z)))

pub hand_told : (s : State) (p : Plan) (e : HandFault) → hand_refusal_by e ≡ hand_refusal s p → answered (hand_refusal_by e) s ≡ hand_of s p
hand_told s p e h =
    ap (λ (r : Refusal). answered r s) h ∙ sym (hand_refused s p (λ z. hand_numbered e (ap (λ (r : Refusal). r.refused) h ∙ z)))

-- what the answer of a decided slot says: no refusal, its state and its steps
pub told_number : (s : State) (steps : ℕ) (c : Option Counts) → (told_slot s steps c).refused ≡ 0
told_number s steps None = refl
told_number s steps (Some c) = refl

pub told_state : (s : State) (steps : ℕ) (c : Option Counts) → (told_slot s steps c).state ≡ s
told_state s steps None = refl
told_state s steps (Some c) = refl

-- so a call that answers one is not refused
pub slot_taken_by : (s : State) (o : List ℕ) (room : ℕ) (d : Slot) → slot_by d ≡ slot_of s o room → slot_refusal s o room ≡ 0
slot_taken_by s o room d h = sym (number_told s o room) ∙ sym (ap (λ (a : Answer). a.refused) h) ∙ told_number d.state d.steps d.counts
