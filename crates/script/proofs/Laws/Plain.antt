-- Laws of plain slot lines: what each of them is as a line of the script, and how far so many of them take a run.
-- Assumes nothing.
use mathlib.Core.Path.{◌≡◌, refl, sym, ap, subst, ◌∙◌}
use mathlib.Core.Logic.{◌≢◌}
use mathlib.Core.Bool.{Bool, true, false, not, ◌&&◌, false≢true}
use mathlib.Core.List.{List}
use Prim.Native.Nat.{ℕ, zero, suc, ◌+◌, ◌-◌, ◌*◌, ◌/◌, ◌≤◌, ◌<◌}
use native.Mathlib.Numerals.{add-one}
use native.Mathlib.Decide.{ℕ_discrete}
use native.Mathlib.Omega.{arith}
use lib.Dec.{eqb, ltb}
use lib.ListN.{length, take, drop, length-drop}
use lib.Seq.{length-take-le, get_or-take, get_or-drop, ext_get_or}
use borrow.Author.Tests.{le-leb, ne_eqb}
use Rattle.table.specs.Sums.{nth}
use Rattle.table.proofs.Tables.{both, neg'}
use Rattle.table.proofs.Members.{each_all}
use Rattle.table.proofs.Filling.{values_length, values_at}
use Rattle.regulator.specs.State.{Shaped, adds_up}
use Rattle.regulator.specs.Turn.{granted, steps_of}
use Rattle.regulator.specs.Grant.{decided_of}
use Rattle.std.specs.Prelude.{None, Ok}
use Rattle.regulator.specs.Close.{without_counts, slot_by, ended, Answer}
use Rattle.regulator.specs.declared.close.Slot.{Slot}
use Rattle.regulator.specs.declared.state.State.{State}
use Rattle.regulator.proofs.Laws.Adding.{adds}
use Rattle.regulator.proofs.Laws.Deciding.{ended_open, ended_complete, slot_decided, slot_number}
use Rattle.regulator.proofs.Laws.Keeping.{slot_next}
use Rattle.slots.specs.Lines.{line_bytes, offers_at, SlotLine, after_slots, Decides, Carries}
use Rattle.script.specs.Line.{is_digit, digits_only, Meaning, slot_line, offers_of, meaning_of}
use Rattle.script.specs.Replay.{carried_out}
use Rattle.script.specs.Feeding.{Sound, unended, Fed}
use Rattle.script.specs.Output.{output}
use Rattle.script.specs.Inner.{Stepped, at_ten, LineEnd, open_end}
use Rattle.script.specs.declared.feeding.Run.{Run}
use Rattle.script.proofs.Laws.Reading.{slot_is, slot_good, line_slot, offers_length, offers_at_lem}
use Rattle.script.proofs.Laws.Carrying.{slot_prints, step_silent}
use Rattle.script.proofs.Laws.Feeding.{fed_none, fed_then, fed_on}

-- A slot line that starts at a place of a part.
module _ (part : List ℕ) (at : ℕ) (fits : at + line_bytes ≤ length part) (l : SlotLine part at) where
  -- its nineteen bytes without the byte 10
  abbrev line : List ℕ
  line = take (at + 19 - at) (drop at part)

  line_long : length line ≡ 19
  line_long = length-take-le (at + 19 - at) (drop at part) (omega (arith, length-drop at part)) ∙ omega arith

  line_at : (i : ℕ) → i < 19 → nth line i ≡ nth part (at + i)
  line_at i h = get_or-take (at + 19 - at) (drop at part) i 0 (omega arith) ∙ get_or-drop at part i 0

  letter : nth line 0 ≡ 115
  letter = let e : at + 0 ≡ at = omega arith in line_at 0 (omega arith) ∙ ap (nth part) e ∙ l.head.letter

  space : nth line 1 ≡ 32
  space = line_at 1 (omega arith) ∙ l.head.space

  -- the digits
  abbrev digits : List ℕ
  digits = drop 2 line

  digits_long : length digits ≡ 17
  digits_long = length-drop 2 line ∙ omega (arith, line_long)

  digit_at : (n : ℕ) → n < 17 → nth digits n ≡ nth part (at + 2 + n)
  digit_at n h =
      let e : at + (2 + n) ≡ at + 2 + n = omega arith in
      get_or-drop 2 line n 0 ∙ line_at (2 + n) (omega arith) ∙ ap (nth part) e

  digit_fits : (n : ℕ) → n < 17 → (48 ≤ nth digits n) × (nth digits n ≤ 50)
  digit_fits n h = (omega (arith, digit_at n h, (l.digits n h).0), omega (arith, digit_at n h, (l.digits n h).1))

  all_digits : digits_only digits ≡ true
  unfolding is_digit
  all_digits = each_all is_digit digits
      (λ n h. let d = digit_fits n (omega (arith, digits_long)) in both (le-leb 48 (nth digits n) d.0) (le-leb (nth digits n) 57 (omega arith)))

  -- no byte of it is byte 10
  byte_other : (i : ℕ) → i < 19 → nth line i ≢ 10
  byte_other zero h e = omega (arith, letter)
  byte_other (suc zero) h e = omega (arith, space)
  byte_other (suc (suc n)) h e =
      let q : 2 + n ≡ suc (suc n) = omega arith in
      omega (arith, get_or-drop 2 line n 0, ap (nth line) q, (digit_fits n (omega arith)).0)

  unbroken : unended line ≡ true
  unbroken = each_all (λ (b : ℕ). not (eqb b 10)) line (λ i h. neg' (ne_eqb (nth line i) 10 (byte_other i (omega (arith, line_long)))))

  plain_ends : LineEnd part at (at + 19)
  plain_ends = record { low = omega arith; high = omega arith; clear = unbroken; stop = at_ten (omega arith) l.head.end }

  plain_shut : open_end at (at + 19) (length part) ≡ false
  plain_shut = ap (λ (t : Bool). t && ltb (at + 19 - at) 20) (ne_eqb (at + 19) (length part) (λ e. omega arith))

  -- its meaning is the slot line of its digits
  offers : offers_of digits ≡ offers_at part (at + 2)
  offers =
      let f : ℕ → ℕ = λ n. nth part (at + 2 + n) - 48 in
      ext_get_or 0 (offers_of digits) (offers_at part (at + 2)) (offers_length digits ∙ digits_long ∙ sym (values_length f 17))
      (λ n h.
      let k : n < 17 = omega (arith, offers_length digits, digits_long) in
      offers_at_lem digits n ∙ ap (λ (b : ℕ). b - 48) (digit_at n k) ∙ sym (values_at f 0 17 n k))

  plain_meaning : meaning_of line ≡ slot_line (offers_at part (at + 2))
  plain_meaning = (line_slot line letter space).0 ∙ slot_good digits (slot_is digits digits_long all_digits) ∙ ap slot_line offers

-- a decided slot within its period keeps the lists' lengths
decides_shaped : (s : State) (o : List ℕ) (t : State) → Shaped s → adds_up s ≡ true → Decides s o t → Shaped t
decides_shaped s o t shape sound d = go (ℕ_discrete u.decided u.plan.period)
  where
    u : State
    u = decided_of s o (granted s o)

    e : without_counts 0 t (steps_of s o) ≡ ended u (steps_of s o)
    e = sym d ∙ slot_decided s o 17 (sym (slot_number s o 17) ∙ ap (λ (a : Answer). a.refused) d)

    go : Dec (u.decided ≡ u.plan.period) → Shaped t
    go (yes q) = absurd (false≢true (ap (λ (a : Answer). a.complete) (e ∙ ended_complete u (steps_of s o) q)))
    go (no q) =
        subst Shaped (sym (ap (λ (a : Answer). a.state) (e ∙ ended_open u (steps_of s o) q)))
        (slot_next s (record { shape = shape; balanced = (adds s sound).balanced }) o).kept.shape

-- runs that agree in each field
same_run : (p q : Run) → p.state ≡ q.state → p.line ≡ q.line → p.refused ≡ q.refused → p.used ≡ q.used → p.at ≡ q.at → p ≡ q
same_run p q state line refused used at = λ j. record { state = state j; line = line j; refused = refused j; used = used j; at = at j }

-- A plain slot line takes a run on, whatever room there is.
module _ (part : List ℕ) (room : ℕ) (b : List ℕ) (r : Run) (live : r.refused ≡ 0) (sound : Sound r) (shape : Shaped r.state)
    (fits : r.used + line_bytes ≤ length part) (l : SlotLine part r.used) (t : State) (d : Decides r.state (offers_at part (r.used + 2)) t) where
  plain_fed : Fed part room r b (record { state = t; line = r.line + 1; refused = 0; used = r.used + 19 + 1; at = r.at }) b
  plain_fed =
      let o = offers_at part (r.used + 2) in
      let d' : Slot = record { state = t; counts = None; steps = steps_of r.state o } in
      let e = plain_meaning part r.used fits l in
      let none : length (carried_out r.state (meaning_of (line part r.used fits l))).prints ≡ 0 =
      ap (λ (m : Meaning). length (carried_out r.state m).prints) e ∙ ap length (sym (slot_prints r.state o (slot_by d') (sym d))) in
      fed_on r part (r.used + 19) (plain_ends part r.used fits l) (plain_shut part r.used fits l) live sound shape room b t r.at b
      (subst (λ (m : Meaning). Stepped (carried_out r.state m) r.state (Ok t) (output b r.at) (output b r.at)) (sym e) (step_silent r.state o d' (sym d) refl (output b r.at)))
      (λ k h. omega (arith, none))

-- So many of them take it on to the place behind them.
module _ (part : List ℕ) (room : ℕ) (b : List ℕ) (r : Run) (live : r.refused ≡ 0) (sound : Sound r) (shape : Shaped r.state)
    (t : State) (to : ℕ) (c : Carries part r.state r.used t to) where
  -- the run after k of them
  abbrev after : ℕ → Run
  after k = record { state = after_slots r.state part r.used k; line = r.line + k; refused = 0; used = r.used + line_bytes * k; at = r.at }

  record On (k : ℕ) : Type 0 where
    fed : Fed part room r b (after k) b
    shaped : Shaped (after k).state

  on_more : (k : ℕ) → k < c.count → On k → On (k + 1)
  on_more k h x =
      let s = x.fed.sound in
      let d = c.decides k h in
      let fed = plain_fed part room b (after k) refl s x.shaped (omega (arith, c.place, c.within)) (c.lines k h) (after (k + 1)).state d in
      record {
        fed =
            fed_then part room r b (after k) b (after (k + 1)) b x.fed
            (subst (λ (q : Run). Fed part room (after k) b q b) (same_run _ (after (k + 1)) refl (omega arith) refl (omega arith) refl) fed);
        shaped = decides_shaped (after k).state _ (after (k + 1)).state x.shaped (s.adds refl) d;
      }

  on : (k : ℕ) → k ≤ c.count → On k
  unfolding after_slots
  on zero h =
      record {
        fed =
            subst (λ (q : Run). Fed part room r b q b) (same_run r (after 0) refl (omega arith) live (omega arith) refl)
            (fed_none part room r b sound (omega (arith, c.place, c.within)));
        shaped = shape;
      }
  on (suc k) h = subst On (add-one k) (on_more k (omega arith) (on k (omega arith)))

  pub fed_plain : Fed part room r b (record { state = t; line = r.line + (to - r.used) / line_bytes; refused = 0; used = to; at = r.at }) b
  fed_plain =
      subst (λ (q : Run). Fed part room r b q b)
      (same_run (after c.count) _ (sym c.state) (omega (arith, c.place)) refl (sym c.place) refl)
      (on c.count (omega arith)).fed
