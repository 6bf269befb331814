-- Laws of a run that is fed a part of a script: no line, one line, lines after lines, and the end.
-- Assumes nothing.
use mathlib.Core.Path.{◌≡◌, refl, sym, ap, ap₂, subst, ◌∙◌}
use mathlib.Core.Logic.{◌≢◌}
use mathlib.Core.Bool.{true, false, cond}
use mathlib.Core.List.{List, [], ◌++◌, append_assoc, append-nil}
use Prim.Native.Nat.{ℕ, ◌+◌, ◌-◌, ◌≤◌, ◌<◌, min}
use native.Mathlib.Decide.{ℕ_discrete}
use native.Mathlib.Omega.{arith}
use lib.Dec.{eqb, ltb}
use lib.ListN.{length, take, drop, length-append, length-drop}
use lib.Seq.{take_all}
use borrow.Author.Tests.{eqb-true, ltb-true, ltb-false, eq-eqb, ne_eqb}
use Rattle.table.specs.Sums.{nth}
use Rattle.table.proofs.Tables.{miss, hit, and_both}
use Rattle.plan.specs.Value.{plan_refusal, Refusal}
use Rattle.plan.specs.Reading.{read_plan}
use Rattle.plan.proofs.Laws.Leftovers.{read_is_accepted}
use Rattle.regulator.specs.State.{Shaped, adds_up}
use Rattle.regulator.specs.Calls.{open_plan}
use Rattle.regulator.specs.declared.state.State.{State}
use Rattle.regulator.proofs.Laws.Adding.{adds, yielded_fit}
use Rattle.regulator.proofs.Laws.Keeping.{opening_taken, opening_adds_up}
use Rattle.script.specs.Line.{meaning_of}
use Rattle.script.specs.Text.{header, open_text, plan_refused_text, line_refused_text}
use Rattle.script.specs.Replay.{Script, split, Done, carried_out, lines_text, Opened, replay_text}
use Rattle.script.specs.Output.{Output, output, put}
use Rattle.script.specs.Feeding.{rest_text, lines_before, Sound, unended, lacks_room, line_room, Fed, Started}
use Rattle.std.specs.Prelude.{Result, Ok, Err}
use Rattle.plan.specs.Reading.{Reading, reading_by}
use Rattle.plan.specs.declared.value.Plan.{Plan}
use Rattle.plan.specs.declared.refusal.Refused.{Refused}
use Rattle.regulator.specs.Calls.{Opening, opening_by}
use Rattle.regulator.specs.declared.faults.HandFault.{HandFault}
use Rattle.regulator.proofs.Laws.Telling.{hand_numbered}
use Rattle.script.specs.Inner.{line_number, Stepped, LineEnd, open_end}
use Rattle.script.specs.declared.carrying.LineFault.{LineFault}
use Rattle.script.specs.declared.feeding.Run.{Run}
use Rattle.script.proofs.Laws.Lengths.{header_long, plan_refused_long, line_refused_long}
use Rattle.script.proofs.Laws.Putting.{put_none, put_put, put_next, put_count, put_length}
use Rattle.script.proofs.Laws.Splitting.{split_none, line_in, Ending, by_ten, by_length, ending, split_front, split_long, text_line, text_refused, text_end, text_last, text_long, bad_refused}
use Rattle.script.proofs.Laws.Carrying.{line_taken, refused_silent, prints_short, line_numbered}

module _ (r : Run) (script : List ℕ) where
  pub rest_on : r.refused ≡ 0 → rest_text r script ≡ lines_text r.state r.line (split script).lines (split script).last
  unfolding rest_text
  rest_on e = hit _ _ _ (eq-eqb r.refused 0 e)

  pub rest_over : r.refused ≢ 0 → rest_text r script ≡ []
  unfolding rest_text
  rest_over e = miss _ _ _ (ne_eqb r.refused 0 e)

-- the buffer keeps its length, and the text its bound
shown_length : (a b t : List ℕ) (m n : ℕ) → output a m ≡ put (output b n) t → length a ≡ length b
shown_length a b t m n e = ap (λ (o : Output). length o.buffer) e ∙ put_length (output b n) t

shown_count : (a b t : List ℕ) (m n : ℕ) → output a m ≡ put (output b n) t → n ≤ length b → m ≡ min (n + length t) (length b)
shown_count a b t m n e h = ap (λ (o : Output). o.count) e ∙ put_count t b n h

-- no line, and lines after lines
pub fed_none : (part : List ℕ) (room : ℕ) (r : Run) (b : List ℕ) → Sound r → r.used ≤ length part → Fed part room r b r b
fed_none part room r b s h =
    record {
      text = [];
      shown = sym (put_none (output b r.at));
      rest = λ later. refl;
      whole = λ k g. omega arith;
      sound = s;
      within = h;
    }

pub fed_then : (part : List ℕ) (room : ℕ) (r : Run) (b : List ℕ) (q : Run) (c : List ℕ) (w : Run) (d : List ℕ)
    → Fed part room r b q c → Fed part room q c w d → Fed part room r b w d
fed_then part room r b q c w d f g =
    record {
      text = f.text ++ g.text;
      shown = g.shown ∙ ap (λ (o : Output). put o g.text) f.shown ∙ put_put (output b r.at) f.text g.text;
      rest = λ later.
          f.rest later
          ∙ ap (λ (t : List ℕ). f.text ++ t) (g.rest later)
          ∙ sym (append_assoc f.text g.text (rest_text w (drop w.used part ++ later)));
      whole = λ k h.
          let n = shown_length c b f.text q.at r.at f.shown in
          let m = shown_count c b f.text q.at r.at f.shown h in
          let x = f.whole k h in
          let y = g.whole k (omega (arith, n, m)) in
          simp length-append (omega (arith, x, y));
      sound = g.sound;
      within = g.within;
    }

-- the lent buffer, back from the text that it was lent to
pub fed_back : {part : List ℕ} {room : ℕ} {r : Run} {b : List ℕ} {q : Run} {c d : List ℕ} → c ≡ d → Fed part room r b q c → Fed part room r b q d
fed_back {part} {room} {r} {b} {q} e f = subst (Fed part room r b q) e f

pub started_back : {plan : List ℕ} {b : List ℕ} {q : Run} {c d : List ℕ} → c ≡ d → Started plan b q c → Started plan b q d
started_back {plan} {b} {q} e f = subst (Started plan b q) e f

pub shown_back : {c d : List ℕ} {n : ℕ} {o : Output} → c ≡ d → output c n ≡ o → output d n ≡ o
shown_back {n = n} {o = o} e f = subst (λ (b : List ℕ). output b n ≡ o) e f

-- One line.
module _ (r : Run) (part : List ℕ) (end : ℕ) (ends : LineEnd part r.used end) (shut : open_end r.used end (length part) ≡ false)
    (live : r.refused ≡ 0) where
  abbrev line : List ℕ
  line = line_in part r.used end

  abbrev done : Done
  done = carried_out r.state (meaning_of line)

  abbrev text_of : List ℕ → List ℕ
  text_of later = rest_text r (drop r.used part ++ later)

  text_split : (later : List ℕ) (x : Script) → split (drop r.used part ++ later) ≡ x → text_of later ≡ lines_text r.state r.line x.lines x.last
  text_split later x e = rest_on r (drop r.used part ++ later) live ∙ ap (λ (y : Script). lines_text r.state r.line y.lines y.last) e

  -- a line that is too long is refused
  long_refused : 20 ≤ length line → done.refused ≡ 41
  long_refused h = bad_refused r.state r.line line h

  taken_ten : done.refused ≡ 0 → (end < length part) × (nth part end ≡ 10)
  taken_ten e = go (ending part r.used end ends shut)
    where
      go : Ending part r.used end → (end < length part) × (nth part end ≡ 10)
      go (by_ten h q) = (h, q)
      go (by_length h) = absurd (omega (arith, long_refused h))

  text_taken : done.refused ≡ 0 → (later : List ℕ)
      → text_of later
      ≡ done.prints ++ lines_text done.state (r.line + 1) (split (drop (end + 1) part ++ later)).lines (split (drop (end + 1) part ++ later)).last
  text_taken e later =
      let t = taken_ten e in
      text_split later _ (split_front part r.used end ends t.0 t.1 later) ∙ text_line r.state r.line line _ _ e

  text_over : done.refused ≢ 0 → (later : List ℕ) → text_of later ≡ line_refused_text r.line done.refused
  text_over e later = go (ending part r.used end ends shut)
    where
      go : Ending part r.used end → text_of later ≡ line_refused_text r.line done.refused
      go (by_ten h q) = text_split later _ (split_front part r.used end ends h q later) ∙ text_refused r.state r.line line _ _ e
      go (by_length h) =
          rest_on r (drop r.used part ++ later) live
          ∙ text_long r.state r.line _ (split_long part r.used end ends h later) h
          ∙ ap (line_refused_text r.line) (sym (long_refused h))

  -- A line that was taken, and lost nothing of what it prints, takes the run on.
  module _ (sound : Sound r) (shape : Shaped r.state) (room : ℕ) (before : List ℕ)
      (next : State) (at : ℕ) (after : List ℕ) (step : Stepped done r.state (Ok next) (output before r.at) (output after at)) where
    pub fed_on : (line_room ≤ room → r.at ≤ length before → at ≡ r.at + length done.prints)
        → Fed part room r before (record { state = next; line = r.line + 1; refused = 0; used = end + 1; at = at }) after
    fed_on whole =
        let z : done.refused ≡ 0 = sym step.number in
        let t = line_taken r.state shape (sound.adds live) line z in
        let to : Run = record { state = next; line = r.line + 1; refused = 0; used = end + 1; at = at } in
        record {
          text = done.prints;
          shown = step.shown;
          rest = λ later.
              text_taken z later
              ∙ ap (λ (s : State). done.prints ++ lines_text s (r.line + 1) (split (drop (end + 1) part ++ later)).lines (split (drop (end + 1) part ++ later)).last) (sym step.next)
              ∙ ap (λ (l : List ℕ). done.prints ++ l) (sym (rest_on to (drop (end + 1) part ++ later) refl));
          whole = whole;
          sound =
              record {
                adds = λ y. ap adds_up step.next ∙ t.adds;
                lines = λ y. omega (arith, sound.lines live, t.lines, ap lines_before step.next);
              };
          within = omega (arith, (taken_ten z).0);
        }

  -- Where room is free: a line that was taken, and one that was refused.
  module _ (sound : Sound r) (shape : Shaped r.state) (few : r.state.closed < 4294967296) (room : ℕ)
      (before : List ℕ) (free : lacks_room r.at (length before) room ≡ false) where
    pub fed_taken : (next : State) (at : ℕ) (after : List ℕ) → Stepped done r.state (Ok next) (output before r.at) (output after at)
        → Fed part room r before (record { state = next; line = r.line + 1; refused = 0; used = end + 1; at = at }) after
    fed_taken next at after step =
        fed_on sound shape room before next at after step
        (λ k h.
        let count = shown_count after before done.prints at r.at step.shown h in
        let most = prints_short r.state shape (sound.adds live) few (meaning_of line) in
        omega (arith, count, ltb-false (length before - r.at) room free, most))

    pub fed_refused : (fault : LineFault) (at : ℕ) (after : List ℕ) → Stepped done r.state (Err fault) (output before r.at) (output after at)
        → (n : ℕ) → n ≡ line_number fault → n < 256 → r.line < 18446744073709551616
        → (last : List ℕ) (m : ℕ) → output last m ≡ put (output after at) (line_refused_text r.line n)
        → Fed part room r before (record { state = r.state; line = r.line; refused = n; used = end; at = m }) last
    fed_refused fault at after step n is small fits last m told =
        let e : n ≢ 0 = λ y. line_numbered fault (sym is ∙ y) in
        let told_by : n ≡ done.refused = is ∙ step.number in
        let z : done.refused ≢ 0 = λ y. e (told_by ∙ y) in
        let t = line_refused_text r.line n in
        let to : Run = record { state = r.state; line = r.line; refused = n; used = end; at = m } in
        let silent : output after at ≡ output before r.at =
        step.shown ∙ ap (put (output before r.at)) (refused_silent r.state (meaning_of line) z) ∙ put_none (output before r.at) in
        let shown : output last m ≡ put (output before r.at) t = told ∙ ap (λ (o : Output). put o t) silent in
        record {
          text = t;
          shown = shown;
          rest = λ later.
              text_over z later
              ∙ ap (line_refused_text r.line) (sym told_by)
              ∙ sym (append-nil t)
              ∙ ap (λ (l : List ℕ). t ++ l) (sym (rest_over to (drop end part ++ later) e));
          whole = λ k h.
              let count = shown_count last before t m r.at shown h in
              omega (arith, count, ltb-false (length before - r.at) room free, line_refused_long r.line n fits small);
          sound = record { adds = λ y. absurd (e y); lines = λ y. absurd (e y) };
          within = ends.high;
        }

-- A line's number is far below what 64 bits hold.
pub line_small : (r : Run) → Sound r → r.refused ≡ 0 → Shaped r.state → r.state.closed < 4294967296 → r.line < 1000000000000000000
line_small r s e shape few =
    let a = adds r.state (s.adds e) in
    omega (arith, s.lines e, a.below, a.balanced.plan.small, yielded_fit r.state a.balanced shape.yielded shape.plan.reservation)

-- Where a search for a line's end came to the end of the part, no line is left.
pub fed_lineless : (part : List ℕ) (used end : ℕ) → LineEnd part used end → open_end used end (length part) ≡ true
    → (unended (drop used part) ≡ true) × (length part < used + 20)
fed_lineless part used end l e =
    let b = and_both (eqb end (length part)) (ltb (end - used) 20) e in
    let n : end ≡ length part = eqb-true end (length part) b.0 in
    let all : take (end - used) (drop used part) ≡ drop used part = take_all (end - used) (drop used part) (omega (arith, length-drop used part)) in
    (ap unended (sym all) ∙ l.clear, omega (arith, ltb-true (end - used) 20 b.1, l.low))

-- The end of a script: nothing is left, or a last part without byte 10.
module _ (r : Run) (live : r.refused ≡ 0) (rest : List ℕ) (clear : unended rest ≡ true) where
  ends_with : rest_text r rest ≡ lines_text r.state r.line [] rest
  ends_with = rest_on r rest live ∙ ap (λ (x : Script). lines_text r.state r.line x.lines x.last) (split_none rest clear)

  pub ends_open : rest ≡ [] → rest_text r rest ≡ open_text r.state.decided
  ends_open e = ends_with ∙ ap (lines_text r.state r.line []) e ∙ text_end r.state r.line

  pub ends_refused : 1 ≤ length rest → rest_text r rest ≡ line_refused_text r.line 41
  ends_refused h = ends_with ∙ text_last r.state r.line rest h

-- A plan file that is opened: one that is read is not refused by opening.
pub opened_read : (plan : List ℕ) (p : Plan) → reading_by (Ok p) ≡ read_plan plan → (r : Result State Refused) → opening_by r ≡ open_plan p → Opened plan r
opened_read plan p h r o = go r o
  where
    z : (read_plan plan).refused ≡ 0
    z = sym (ap (λ (x : Reading). x.refused) h)

    same : p ≡ (read_plan plan).plan
    same = ap (λ (x : Reading). x.plan) h

    go : (r : Result State Refused) → opening_by r ≡ open_plan p → Opened plan r
    go (Ok s) o = (z, ap (λ (x : Opening). x.state) (o ∙ ap open_plan same))
    go (Err e) o =
        let taken : (plan_refusal (read_plan plan).plan).refused ≡ 0 = ap (λ (x : Refusal). x.refused) (read_is_accepted plan z).1 in
        absurd (hand_numbered (HandFault.Plan e) (ap (λ (x : Opening). x.refused) (o ∙ ap open_plan same) ∙ opening_taken (read_plan plan).plan taken))

pub opened_as : (plan : List ℕ) {r q : Result State Refused} → r ≡ q → Opened plan r → Opened plan q
opened_as plan e o = subst (Opened plan) e o

-- The start: a plan that is refused, and one that is not.
module _ (plan before after : List ℕ) (m : ℕ) where
  pub start_refused : (s : State) (n place : ℕ) → n ≡ (read_plan plan).refused → place ≡ (read_plan plan).place → n ≢ 0 → n < 256 → place < 65536
      → output after m ≡ put (output before 0) (plan_refused_text n place)
      → Started plan before (record { state = s; line = 1; refused = n; used = 0; at = m }) after
  unfolding replay_text
  start_refused s n place en ep z small fits shown =
      let q : Run = record { state = s; line = 1; refused = n; used = 0; at = m } in
      record {
        text = plan_refused_text n place;
        shown = shown;
        rest = λ script.
            miss _ _ _ (ne_eqb (read_plan plan).refused 0 (λ e. z (en ∙ e)))
            ∙ ap₂ plan_refused_text (sym en) (sym ep)
            ∙ sym (append-nil (plan_refused_text n place))
            ∙ ap (λ (l : List ℕ). plan_refused_text n place ++ l) (sym (rest_over q script z));
        whole = λ h. omega (arith, shown_count after before (plan_refused_text n place) m 0 shown (omega arith), plan_refused_long n place small fits);
        sound = record { adds = λ e. absurd (z e); lines = λ e. absurd (z e) };
        none = refl;
      }

  pub start_good : (s : State) → s ≡ (open_plan (read_plan plan).plan).state → (read_plan plan).refused ≡ 0
      → output after m ≡ put (output before 0) header
      → Started plan before (record { state = s; line = 1; refused = 0; used = 0; at = m }) after
  unfolding replay_text
  start_good s es z shown =
      let q : Run = record { state = s; line = 1; refused = 0; used = 0; at = m } in
      let p = (read_plan plan).plan in
      let a = read_is_accepted plan z in
      let taken : (plan_refusal p).refused ≡ 0 = ap (λ (x : Refusal). x.refused) a.1 in
      record {
        text = header;
        shown = shown;
        rest = λ script.
            hit _ _ _ (eq-eqb (read_plan plan).refused 0 z)
            ∙ ap (λ (t : State). header ++ lines_text t 1 (split script).lines (split script).last) (sym es)
            ∙ ap (λ (l : List ℕ). header ++ l) (sym (rest_on q script refl));
        whole = λ h. omega (arith, shown_count after before header m 0 shown (omega arith), header_long);
        sound = record { adds = λ e. ap adds_up es ∙ opening_adds_up p a.0 (opening_taken p taken); lines = λ e. omega arith };
        none = refl;
      }

-- The last part: what is printed after its lines ends the text.
pub fed_ends : (part : List ℕ) (room : ℕ) (r : Run) (b : List ℕ) (q : Run) (c : List ℕ) → Fed part room r b q c
    → (t last : List ℕ) (n : ℕ) → rest_text q (drop q.used part) ≡ t → output last n ≡ put (output c q.at) t
    → output last n ≡ put (output b r.at) (rest_text r (drop r.used part))
fed_ends part room r b q c f t last n e shown =
    let all : rest_text r (drop r.used part) ≡ f.text ++ t =
    ap (rest_text r) (sym (append-nil (drop r.used part)))
    ∙ f.rest []
    ∙ ap (λ (l : List ℕ). f.text ++ l) (ap (rest_text q) (append-nil (drop q.used part)) ∙ e) in
    shown ∙ put_next (output b r.at) (output c q.at) f.text t f.shown ∙ ap (put (output b r.at)) (sym all)

-- Each line leaves less to do.
pub fed_less : (x y a b n : ℕ) → x ≡ 0 → a ≤ n → (y ≡ 0 → a < b) → b ≤ n → cond (eqb y 0) (n + 1 - b) 0 < cond (eqb x 0) (n + 1 - a) 0
fed_less x y a b n z h g k = rw (eq-eqb x 0 z) (go (ℕ_discrete y 0))
  where
    go : Dec (y ≡ 0) → cond (eqb y 0) (n + 1 - b) 0 < n + 1 - a
    go (yes e) = rw (eq-eqb y 0 e) (omega (arith, g e))
    go (no e) = rw (ne_eqb y 0 e) (omega arith)

-- The text stays within the buffer.
pub shown_fits : (a b t : List ℕ) (m n : ℕ) → output a m ≡ put (output b n) t → n ≤ length b → m ≤ length a
shown_fits a b t m n e h = omega (arith, shown_count a b t m n e h, shown_length a b t m n e)
