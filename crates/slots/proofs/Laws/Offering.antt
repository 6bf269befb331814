-- Laws of one slot line: its digits as offers, offers that are taken, a slot that is decided, and one line more.
-- Assumes nothing.
use mathlib.Core.Path.{◌≡◌, refl, sym, ap, ap₂, subst, ◌∙◌}
use mathlib.Core.Logic.{◌≢◌}
use mathlib.Core.Bool.{Bool, true, false, not, ◌&&◌, ◌||◌, false≢true, and-false}
use mathlib.Core.List.{List}
use Prim.Native.Nat.{ℕ, ◌+◌, ◌-◌, ◌*◌, ◌≤◌, ◌<◌}
use native.Mathlib.Omega.{arith}
use native.Mathlib.Numerals.{add-one}
use native.Mathlib.Decide.{ℕ_discrete, dec_lt}
use lib.Dec.{eqb}
use lib.ListN.{length, get_or, get_or-eq_default}
use borrow.Author.Tests.{eq-eqb, ne_eqb, le-ltb}
use Rattle.table.specs.Sums.{nth}
use Rattle.table.proofs.Tables.{neither, unapplied}
use Rattle.table.proofs.Searches.{some_all}
use Rattle.table.proofs.Filling.{values_length, values_at}
use Rattle.bits.specs.Bits.{bit}
use Rattle.plan.specs.declared.value.Plan.{Plan}
use Rattle.regulator.specs.Turn.{granted, steps_of}
use Rattle.regulator.specs.Grant.{decided_of}
use Rattle.regulator.specs.Refusals.{above_two, unplanned, offers_table, offers_refusal}
use Rattle.regulator.specs.Calls.{slot_of}
use Rattle.regulator.specs.declared.state.State.{State}
use Rattle.regulator.specs.Close.{Answer}
use Rattle.regulator.proofs.Laws.Refusing.{slot_on}
use Rattle.regulator.proofs.Laws.Deciding.{slot_decided, ended_open}
use Rattle.regulator.proofs.Laws.Keeping.{Kept as Sound, kept_adds_up, slot_next}
use Rattle.digits.specs.Lanes.{Offered}
use Rattle.engine.specs.Inner.{Given}
use Rattle.slots.specs.Lines.{line_bytes, offers_at, SlotLine, Decides, after_slots, Carries}
use Rattle.slots.specs.Inner.{Allowed}

-- ---- digits as offers

-- a digit and what it stands for
digit_is : (x k : ℕ) → 48 ≤ x → eqb x (48 + k) ≡ eqb (x - 48) k
digit_is x k h = go (ℕ_discrete (x - 48) k)
  where
    go : Dec (x - 48 ≡ k) → eqb x (48 + k) ≡ eqb (x - 48) k
    go (yes e) = eq-eqb x (48 + k) (omega arith) ∙ sym (eq-eqb (x - 48) k e)
    go (no e) = ne_eqb x (48 + k) (λ z. e (omega arith)) ∙ sym (ne_eqb (x - 48) k e)

module _ (part : List ℕ) (at access writeback : ℕ) (offered : Offered part at access writeback) where
  offer_at : (n : ℕ) → n < 17 → nth (offers_at part at) n ≡ nth part (at + n) - 48
  offer_at n h = values_at (λ (k : ℕ). nth part (at + k) - 48) 0 17 n h

  offer_out : (n : ℕ) → (n < 17 → ⊥) → nth (offers_at part at) n ≡ 0
  offer_out n h = get_or-eq_default (offers_at part at) 0 {n = n} (omega (arith, h, values_length (λ (k : ℕ). nth part (at + k) - 48) 17))

  pub given : Given (offers_at part at) access writeback
  given = record { access_at = λ n. one n (dec_lt n 17); writeback_at = λ n. two n (dec_lt n 17); known = λ n. most n (dec_lt n 17) }
    where
      one : (n : ℕ) → Dec (n < 17) → bit access n ≡ eqb (nth (offers_at part at) n) 1
      one n (yes h) = let d = offered.each n h in d.is_access ∙ digit_is (nth part (at + n)) 1 d.low ∙ ap (λ (v : ℕ). eqb v 1) (sym (offer_at n h))
      one n (no h) = offered.no_access n (omega (arith, h)) ∙ ap (λ (v : ℕ). eqb v 1) (sym (offer_out n h))

      two : (n : ℕ) → Dec (n < 17) → bit writeback n ≡ eqb (nth (offers_at part at) n) 2
      two n (yes h) = let d = offered.each n h in d.is_writeback ∙ digit_is (nth part (at + n)) 2 d.low ∙ ap (λ (v : ℕ). eqb v 2) (sym (offer_at n h))
      two n (no h) = offered.no_writeback n (omega (arith, h)) ∙ ap (λ (v : ℕ). eqb v 2) (sym (offer_out n h))

      most : (n : ℕ) → Dec (n < 17) → nth (offers_at part at) n ≤ 2
      most n (yes h) = let d = offered.each n h in omega (arith, d.high, offer_at n h)
      most n (no h) = omega (arith, offer_out n h)

-- no number offers both
pub apart : (o : List ℕ) (access writeback : ℕ) → Given o access writeback → (n : ℕ) → (bit access n && bit writeback n) ≡ false
apart o access writeback g n = go (ℕ_discrete (nth o n) 2)
  where
    go : Dec (nth o n ≡ 2) → (bit access n && bit writeback n) ≡ false
    go (yes e) = ap (λ (a : Bool). a && bit writeback n) (g.access_at n ∙ ne_eqb (nth o n) 1 (λ z. omega arith))
    go (no e) = ap (λ (w : Bool). bit access n && w) (g.writeback_at n ∙ ne_eqb (nth o n) 2 e) ∙ and-false (bit access n)

-- ---- offers that are taken, and the slot

module _ (o : List ℕ) (access writeback : ℕ) (g : Given o access writeback) (long : length o ≡ 17) where
  offers : (n : ℕ) → nth o n ≢ 0 → (bit access n || bit writeback n) ≡ true
  offers n h = go (ℕ_discrete (nth o n) 1)
    where
      go : Dec (nth o n ≡ 1) → (bit access n || bit writeback n) ≡ true
      go (yes e) = ap (λ (a : Bool). a || bit writeback n) (g.access_at n ∙ eq-eqb (nth o n) 1 e)
      go (no e) = ap₂ ◌||◌ (g.access_at n ∙ ne_eqb (nth o n) 1 e) (g.writeback_at n ∙ eq-eqb (nth o n) 2 (omega (arith, g.known n, h, e)))

  pub taken : (p : Plan) (allowed : ℕ) → Allowed p allowed → ((n : ℕ) → (bit access n || bit writeback n) ≡ true → bit allowed n ≡ true)
      → offers_refusal p o 17 ≡ 0
  unfolding offers_refusal
  taken p allowed a all =
      unapplied (offers_table p o 17) 0 (
        neither (ap not (eq-eqb (length o) 17 long)) refl,
        (
          some_all (above_two o) 17 (λ n h. le-ltb 2 (nth o n) (g.known n)),
          (some_all (unplanned p o) 16 (λ j h. each j (ℕ_discrete (nth o (j + 1)) 0)), tt),
        ),
      )
    where
      each : (j : ℕ) → Dec (nth o (j + 1) ≡ 0) → unplanned p o j ≡ false
      each j (yes e) = ap (λ (b : Bool). not b && not (get_or p.planned j false)) (eq-eqb (nth o (j + 1)) 0 e)
      each j (no e) =
          ap (λ (b : Bool). not (eqb (nth o (j + 1)) 0) && not b) (sym (a.at j) ∙ all (j + 1) (offers (j + 1) e))
          ∙ and-false (not (eqb (nth o (j + 1)) 0))

  -- decided, and not the last of its period
  pub decided : (s : State) → Sound s → s.decided < s.plan.period → s.closed ≢ 4294967295 → s.decided + 1 ≢ s.plan.period
      → offers_refusal s.plan o 17 ≡ 0 → Decides s o (decided_of s o (granted s o))
  decided s k h c m e =
      let n = slot_next s k o in
      slot_decided s o 17 (slot_on s o 17 (kept_adds_up s k h) c ∙ e)
      ∙ ended_open (decided_of s o (granted s o)) (steps_of s o) (λ z. m (omega (arith, n.decided, z, ap (λ (p : Plan). p.period) n.plan)))

-- a mask less the allowed numbers is 0
pub planned_bit : (j a : Bool) → false ≡ (j && not a) → j ≡ true → a ≡ true
planned_bit true true e q = refl
planned_bit true false e q = absurd (false≢true e)
planned_bit false a e q = absurd (false≢true q)

-- ---- no line, and one more

pub carries_none : (part : List ℕ) (s : State) (from : ℕ) → from ≤ length part → Carries part s from s from
unfolding after_slots
carries_none part s from h =
    record { count = 0; place = omega arith; within = h; state = refl; lines = λ i l. absurd (omega arith); decides = λ i l. absurd (omega arith) }

after_more : (s : State) (part : List ℕ) (from k : ℕ)
    → after_slots s part from (k + 1) ≡ (slot_of (after_slots s part from k) (offers_at part (from + line_bytes * k + 2)) 17).state
unfolding after_slots
after_more s part from k = ap (after_slots s part from) (add-one k)

module _ (part : List ℕ) (s : State) (from : ℕ) (t : State) (at : ℕ) (v : Carries part s from t at) where
  pub carries_more : (u : State) → at + line_bytes ≤ length part → SlotLine part at → Decides t (offers_at part (at + 2)) u → Carries part s from u (at + line_bytes)
  carries_more u room line d =
      record {
        count = seen + 1;
        place = omega (arith, here);
        within = room;
        state = sym last;
        lines = λ i l. line_at i l (ℕ_discrete i seen);
        decides = λ i l. decides_at i l (ℕ_discrete i seen);
      }
    where
      seen : ℕ
      seen = v.count

      here : at ≡ from + line_bytes * seen
      here = v.place

      -- the definitions' state there is the one that was carried
      now_decides : Decides (after_slots s part from seen) (offers_at part (from + line_bytes * seen + 2)) u
      now_decides =
          subst (λ (y : State). Decides y (offers_at part (from + line_bytes * seen + 2)) u) v.state
          (subst (λ (y : ℕ). Decides t (offers_at part (y + 2)) u) here d)

      last : after_slots s part from (seen + 1) ≡ u
      last = after_more s part from seen ∙ ap (λ (a : Answer). a.state) now_decides

      line_at : (i : ℕ) → i < seen + 1 → Dec (i ≡ seen) → SlotLine part (from + line_bytes * i)
      line_at i l (yes e) = subst (SlotLine part) (here ∙ ap (λ (k : ℕ). from + line_bytes * k) (sym e)) line
      line_at i l (no e) = v.lines i (omega arith)

      decides_at : (i : ℕ) → i < seen + 1 → Dec (i ≡ seen)
          → Decides (after_slots s part from i) (offers_at part (from + line_bytes * i + 2)) (after_slots s part from (i + 1))
      decides_at i l (yes e) =
          subst (λ (k : ℕ). Decides (after_slots s part from k) (offers_at part (from + line_bytes * k + 2)) (after_slots s part from (k + 1))) (sym e)
          (subst (Decides (after_slots s part from seen) (offers_at part (from + line_bytes * seen + 2))) (sym last) now_decides)
      decides_at i l (no e) = v.decides i (omega arith)
