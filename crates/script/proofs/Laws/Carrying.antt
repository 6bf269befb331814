-- What a line that is carried out keeps, how many lines there can be, and how much one prints.
-- Assumes nothing.
use mathlib.Core.Path.{◌≡◌, refl, sym, ap, subst, ◌∙◌}
use mathlib.Core.Logic.{◌≢◌}
use mathlib.Core.Bool.{Bool, true, false, cond}
use mathlib.Core.List.{List, []}
use Prim.Native.Nat.{ℕ, ◌+◌, ◌-◌, ◌≤◌, ◌<◌}
use native.Mathlib.Decide.{ℕ_discrete}
use native.Mathlib.Omega.{arith}
use lib.ListN.{length, drop}
use Rattle.table.specs.Sums.{sum}
use Rattle.table.proofs.Elements.{raised_sum}
use Rattle.regulator.specs.State.{Shaped, adds_up}
use Rattle.regulator.specs.Turn.{granted, steps_of}
use Rattle.regulator.specs.Grant.{decided_of}
use Rattle.regulator.specs.Close.{next_period, ended, counts_of, Answer}
use Rattle.regulator.specs.Refusals.{slot_refusal, yield_refusal}
use Rattle.regulator.specs.Calls.{slot_of, yield_of, Yielding}
use Rattle.regulator.specs.declared.state.State.{State}
use Rattle.plan.specs.declared.value.Plan.{Plan}
use Rattle.regulator.proofs.Laws.Adding.{Adds, adds, small, yielded_fit}
use Rattle.regulator.proofs.Laws.Refusing.{slot_taken, yield_taken}
use Rattle.regulator.proofs.Laws.Deciding.{ended_open, ended_complete, slot_refused, slot_decided, slot_number, yield_number, yield_given}
use Rattle.regulator.proofs.Laws.Keeping.{Next, slot_next, slot_keeps, yield_keeps}
use Rattle.script.specs.Line.{Meaning, slot_line, yield_line, bad_line, slot_meaning, is_slot, offers_of, value_of, before, behind, yield_meaning, is_yield, begins, meaning_of}
use Rattle.script.specs.Replay.{Done, carried_out}
use Rattle.script.specs.Feeding.{lines_before, line_room}
use Rattle.script.specs.Output.{Output, put}
use Rattle.script.specs.Text.{period_text}
use Rattle.std.specs.Prelude.{Some, None, Result, Ok, Err}
use Rattle.regulator.specs.Close.{told_slot}
use Rattle.regulator.specs.Calls.{answer_by, yielding_by}
use Rattle.regulator.specs.declared.close.Slot.{Slot}
use Rattle.regulator.specs.declared.close.Counts.{Counts}
use Rattle.regulator.specs.declared.faults.SlotFault.{SlotFault}
use Rattle.regulator.specs.declared.faults.YieldFault.{YieldFault}
use Rattle.regulator.proofs.Laws.Telling.{slot_numbered, yield_numbered}
use Rattle.script.specs.Inner.{line_number, refused_by, state_by, Stepped}
use Rattle.script.specs.declared.carrying.LineFault.{LineFault}
use Rattle.script.proofs.Laws.Putting.{put_none}
use Rattle.script.proofs.Laws.Lengths.{CountsFit, period_long}

-- a line that is of neither form is refused with a number
bad_number : Meaning → ℕ
bad_number (slot_line o) = 41
bad_number (yield_line d k) = 41
bad_number (bad_line n) = n

bad_number_lem : (line : List ℕ) → bad_number (meaning_of line) ≡ 41
unfolding meaning_of slot_meaning yield_meaning bad_number
bad_number_lem line = go (begins 115 line) (begins 121 line) (is_slot (drop 2 line)) (is_yield (drop 2 line))
  where
    slot : Bool → Meaning
    slot c = cond c (slot_line (offers_of (drop 2 line))) (bad_line 41)

    yielded : Bool → Meaning
    yielded d = cond d (yield_line (value_of (before (drop 2 line))) (value_of (behind (drop 2 line)))) (bad_line 41)

    go : (a b c d : Bool) → bad_number (cond a (slot c) (cond b (yielded d) (bad_line 41))) ≡ 41
    go true b true d = refl
    go true b false d = refl
    go false true c true = refl
    go false true c false = refl
    go false false c d = refl

pub bad_line_lem : (line : List ℕ) (n : ℕ) → meaning_of line ≡ bad_line n → n ≡ 41
unfolding bad_number
bad_line_lem line n e = sym (ap bad_number e) ∙ bad_number_lem line

-- what a line that is taken keeps: the state adds up, and one more line is counted for
pub record Taken (s t : State) : Type 0 where
  pub adds : adds_up t ≡ true
  pub lines : lines_before s + 1 ≤ lines_before t

module _ (s : State) (shape : Shaped s) (sound : adds_up s ≡ true) where
  -- the state after a decided slot, before a period's end
  decided : List ℕ → State
  decided o = decided_of s o (granted s o)

  decided_next : (o : List ℕ) → Next s (decided o)
  unfolding decided
  decided_next o = slot_next s (record { shape = shape; balanced = (adds s sound).balanced }) o

  ended_lines : (t : State) (k : ℕ) → Next s t → lines_before s + 1 ≤ lines_before (ended t k).state
  ended_lines t k n = go (ℕ_discrete t.decided t.plan.period)
    where
      a : Adds s
      a = adds s sound

      go : Dec (t.decided ≡ t.plan.period) → lines_before s + 1 ≤ lines_before (ended t k).state
      go (yes q) =
          let e : lines_before (ended t k).state ≡ lines_before (next_period t) = ap (λ (x : Answer). lines_before x.state) (ended_complete t k q) in
          omega (arith, e, n.closed, n.decided, q, ap (λ (p : Plan). p.period) n.plan, a.balanced.plan.small, yielded_fit s a.balanced shape.yielded shape.plan.reservation)
      go (no q) =
          let e : lines_before (ended t k).state ≡ lines_before t = ap (λ (x : Answer). lines_before x.state) (ended_open t k q) in
          omega (arith, e, n.closed, n.decided, ap sum n.yielded)

  carried_taken : (m : Meaning) → bad_number m ≡ 41 → (carried_out s m).refused ≡ 0 → Taken s (carried_out s m).state
  unfolding carried_out bad_number decided
  carried_taken (slot_line o) b e =
      let q : slot_refusal s o 17 ≡ 0 = sym (slot_number s o 17) ∙ e in
      record {
        adds = slot_keeps s shape sound o 17;
        lines = rw (slot_decided s o 17 q) (ended_lines (decided o) (steps_of s o) (decided_next o));
      }
  carried_taken (yield_line d k) b e =
      let q : yield_refusal s d k ≡ 0 = sym (yield_number s d k) ∙ e in
      let t = yield_taken s d k q in
      record {
        adds = yield_keeps s shape sound d k;
        lines = rw (yield_given s d k q) (omega (arith, raised_sum s.yielded (d - 1) k (omega (arith, t.low, t.high, shape.yielded)), t.some));
      }
  carried_taken (bad_line n) b e = absurd (omega arith)

  pub line_taken : (line : List ℕ) → (carried_out s (meaning_of line)).refused ≡ 0 → Taken s (carried_out s (meaning_of line)).state
  line_taken line e = carried_taken (meaning_of line) (bad_number_lem line) e

-- a line that is refused prints nothing of its own
pub refused_silent : (s : State) (m : Meaning) → (carried_out s m).refused ≢ 0 → (carried_out s m).prints ≡ []
unfolding carried_out
refused_silent s (slot_line o) e =
    rw (slot_refused s o 17 (λ q. e (slot_number s o 17 ∙ q))) refl
refused_silent s (yield_line d k) e = refl
refused_silent s (bad_line n) e = refl

-- A slot call's answer, as the step of its line: with the period that it closed, with none, or refused.
module _ (s : State) (o : List ℕ) where
  pub slot_prints : (a : Answer) → a ≡ slot_of s o 17 → cond a.complete (period_text s.plan a.state.closed a.counts) [] ≡ (carried_out s (slot_line o)).prints
  unfolding carried_out
  slot_prints a e = ap (λ (b : Answer). cond b.complete (period_text s.plan b.state.closed b.counts) []) e

  slot_step : (a : Answer) → a ≡ slot_of s o 17 → (r : Result State LineFault) → refused_by r ≡ a.refused → state_by s r ≡ a.state
      → (before after : Output) → after ≡ put before (cond a.complete (period_text s.plan a.state.closed a.counts) [])
      → Stepped (carried_out s (slot_line o)) s r before after
  unfolding carried_out
  slot_step a e r number next before after shown =
      record {
        number = number ∙ ap (λ (b : Answer). b.refused) e;
        next = next ∙ ap (λ (b : Answer). b.state) e;
        shown = shown ∙ ap (put before) (slot_prints a e);
      }

  pub step_period : (d : Slot) → answer_by s (Ok d) ≡ slot_of s o 17 → (c : Counts) → d.counts ≡ Some c
      → (before after : Output) → after ≡ put before (period_text s.plan d.state.closed c)
      → Stepped (carried_out s (slot_line o)) s (Ok d.state) before after
  step_period d e c h = slot_step (told_slot d.state d.steps (Some c)) (ap (told_slot d.state d.steps) (sym h) ∙ e) (Ok d.state) refl refl

  pub step_silent : (d : Slot) → answer_by s (Ok d) ≡ slot_of s o 17 → d.counts ≡ None → (before : Output)
      → Stepped (carried_out s (slot_line o)) s (Ok d.state) before before
  step_silent d e h before =
      slot_step (told_slot d.state d.steps None) (ap (told_slot d.state d.steps) (sym h) ∙ e) (Ok d.state) refl refl before before (sym (put_none before))

  pub step_refused : (e : SlotFault) → answer_by s (Err e) ≡ slot_of s o 17 → (before : Output)
      → Stepped (carried_out s (slot_line o)) s (Err (LineFault.Slot e)) before before
  step_refused e h before = slot_step (answer_by s (Err e)) h (Err (LineFault.Slot e)) refl refl before before (sym (put_none before))

-- A yield's answer, and a line of neither form.
module _ (s : State) (d k : ℕ) (before : Output) where
  yield_step : (y : Yielding) → y ≡ yield_of s d k → (r : Result State LineFault) → refused_by r ≡ y.refused → state_by s r ≡ y.state
      → Stepped (carried_out s (yield_line d k)) s r before before
  unfolding carried_out
  yield_step y e r number next =
      record {
        number = number ∙ ap (λ (b : Yielding). b.refused) e;
        next = next ∙ ap (λ (b : Yielding). b.state) e;
        shown = sym (put_none before);
      }

  pub step_yield : (t : State) → yielding_by s (Ok t) ≡ yield_of s d k → Stepped (carried_out s (yield_line d k)) s (Ok t) before before
  step_yield t e = yield_step (yielding_by s (Ok t)) e (Ok t) refl refl

  pub step_no_yield : (e : YieldFault) → yielding_by s (Err e) ≡ yield_of s d k → Stepped (carried_out s (yield_line d k)) s (Err (LineFault.Yield e)) before before
  step_no_yield e h = yield_step (yielding_by s (Err e)) h (Err (LineFault.Yield e)) refl refl

pub step_bad : (s : State) (n : ℕ) → n ≡ 41 → (before : Output) → Stepped (carried_out s (bad_line n)) s (Err LineFault.Form) before before
unfolding carried_out
step_bad s n e before = record { number = sym e; next = refl; shown = sym (put_none before) }

pub stepped_as : {d : Done} {s : State} {r q : Result State LineFault} {before after : Output} → r ≡ q → Stepped d s r before after → Stepped d s q before after
stepped_as {d} {s} {before = before} {after = after} e t = subst (λ (q : Result State LineFault). Stepped d s q before after) e t

-- no line is refused with 0
pub line_numbered : (e : LineFault) → line_number e ≢ 0
line_numbered LineFault.Form z = absurd (omega arith)
line_numbered (LineFault.Slot e) z = slot_numbered e z
line_numbered (LineFault.Yield e) z = yield_numbered e z

-- What a line prints fits in the room that is kept for it.
module _ (s : State) (shape : Shaped s) (sound : adds_up s ≡ true) (few : s.closed < 4294967296) where
  -- the counts of a period are at most its length
  counts_fit : (t : State) → Next s t → (j : ℕ) → j < 16 → CountsFit (counts_of t) j
  counts_fit t n j h =
      let b = small t n.kept.balanced j h in
      record {
        reserved = omega (arith, b.reserved);
        reclaimed = omega (arith, b.reclaimed);
        yielded = omega (arith, b.yielded);
        writebacks = omega (arith, b.writebacks);
      }

  slot_short : (o : List ℕ) → slot_refusal s o 17 ≡ 0 → length (carried_out s (slot_line o)).prints ≤ line_room
  unfolding carried_out decided
  slot_short o q = rw (slot_decided s o 17 q) (go (decided s shape sound o) (steps_of s o) (decided_next s shape sound o))
    where
      full : s.closed ≢ 4294967295
      full = (slot_taken s o 17 q).unfilled

      go : (t : State) (k : ℕ) → Next s t → length (cond (ended t k).complete (period_text s.plan (ended t k).state.closed (ended t k).counts) []) ≤ line_room
      go t k n = by (ℕ_discrete t.decided t.plan.period)
        where
          p : Plan
          p = s.plan

          by : Dec (t.decided ≡ t.plan.period) → length (cond (ended t k).complete (period_text p (ended t k).state.closed (ended t k).counts) []) ≤ line_room
          by (yes e) = rw (ended_complete t k e)
              (period_long p (t.closed + 1) (counts_of t) (omega (arith, n.closed, full)) (omega arith) (omega arith) (omega arith) (counts_fit t n))
          by (no e) = rw (ended_open t k e) (omega arith)

  pub prints_short : (m : Meaning) → length (carried_out s m).prints ≤ line_room
  unfolding carried_out
  prints_short (slot_line o) = go (ℕ_discrete (slot_refusal s o 17) 0)
    where
      go : Dec (slot_refusal s o 17 ≡ 0) → length (carried_out s (slot_line o)).prints ≤ line_room
      go (yes q) = slot_short o q
      go (no q) = rw (refused_silent s (slot_line o) (λ e. q (sym (slot_number s o 17) ∙ e))) (omega arith)
  prints_short (yield_line d k) = omega arith
  prints_short (bad_line n) = omega arith
