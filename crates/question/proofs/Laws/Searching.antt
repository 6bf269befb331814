-- Laws of a search: what is told at each stage, one line, lines after lines, and the start.
-- Assumes nothing.
use mathlib.Core.Path.{◌≡◌, refl, sym, ap, ap₂, subst, ◌∙◌}
use mathlib.Core.Logic.{◌≢◌}
use mathlib.Core.Bool.{Bool, true, false, cond, false≢true}
use mathlib.Core.List.{List, [], ◌++◌, append-nil}
use Prim.Native.Nat.{ℕ, ◌+◌, ◌-◌, ◌≤◌, ◌<◌}
use native.Mathlib.Decide.{ℕ_discrete}
use native.Mathlib.Omega.{arith}
use lib.ListN.{length, drop}
use borrow.Author.Tests.{eq-eqb, ne_eqb}
use Rattle.table.specs.Sums.{nth}
use Rattle.table.proofs.Tables.{miss, hit}
use Rattle.plan.specs.Value.{plan_refusal, Refusal}
use Rattle.plan.specs.Reading.{read_plan}
use Rattle.plan.proofs.Laws.Leftovers.{read_is_accepted}
use Rattle.regulator.specs.State.{Shaped, adds_up}
use Rattle.regulator.specs.Calls.{open_plan, slot_of, yield_of, Yielding}
use Rattle.regulator.specs.Refusals.{slot_refusal}
use Rattle.regulator.specs.declared.state.State.{State}
use Rattle.regulator.specs.Close.{Answer}
use Rattle.regulator.proofs.Laws.Deciding.{slot_number}
use Rattle.regulator.proofs.Laws.Keeping.{opening_taken, opening_adds_up}
use Rattle.script.specs.Line.{Meaning, slot_line, yield_line, bad_line, meaning_of}
use Rattle.script.specs.Text.{plan_refused_text}
use Rattle.script.specs.Replay.{Script, split, Done, carried_out}
use Rattle.script.specs.Feeding.{unended}
use Rattle.script.specs.Inner.{LineEnd, open_end}
use Rattle.script.proofs.Laws.Splitting.{split_empty, split_none, line_in, Ending, by_ten, by_length, ending, split_front, split_long, bad_refused}
use Rattle.script.proofs.Laws.Carrying.{bad_line_lem, line_taken}
use Rattle.question.specs.Ask.{Question, asks, malformed, question_of}
use Rattle.question.specs.Slots.{Decided, slots_from, decided_by, Found, slot_at}
use Rattle.question.specs.Answer.{found_text, ask_refused_text, asked_text, answer_to, why_text}
use Rattle.question.specs.Seeking.{goes_on, is_found, stage_text, answer_text, Sound, Sought, Seeks, Started}
use Rattle.question.specs.Inner.{first_stage, begun, over, found, onward, search_after}
use Rattle.question.specs.declared.seeking.Stage.{Stage}
use Rattle.question.specs.declared.seeking.Stage.TheVariants.{Seeking, Found as FoundStage, AskRefused, PlanRefused}
use Rattle.question.specs.declared.seeking.Search.{Search}
use Rattle.question.proofs.Laws.Slots.{decided_none, decided_taken, decided_over, decided_long, slot_none, slot_here, slot_on, slot_zero}

-- a stage that goes on is that of seeking
pub seeking_is : (g : Stage) → goes_on g ≡ true → g ≡ Seeking
seeking_is Seeking e = refl
seeking_is FoundStage e = absurd (false≢true e)
seeking_is (AskRefused n) e = absurd (false≢true e)
seeking_is (PlanRefused n k) e = absurd (false≢true e)

-- a search that ended with a refusal keeps nothing
over_sound : (q : Search) → goes_on q.stage ≡ false → is_found q.stage ≡ false → Sound q
over_sound q a b =
    record {
      adds = λ z. absurd (false≢true (sym a ∙ z));
      some = λ z. absurd (false≢true (sym a ∙ z));
      found = λ z. absurd (false≢true (sym b ∙ z));
    }

-- what is told at a stage
pub at_stage : (q : Search) (g : Stage) (rest : List ℕ) → q.stage ≡ g → answer_text q rest ≡ stage_text g q rest
unfolding answer_text
at_stage q g rest e = ap (λ (x : Stage). stage_text x q rest) e

-- of a search that goes on: by the slots that the rest decides
abbrev told : Search → List Decided → List ℕ
told q slots = found_text (slot_at q.left slots) q.number

none_told : (q : Search) → told q [] ≡ ask_refused_text 61
none_told q = ap (λ (f : Found). found_text f q.number) (slot_none q.left)

-- where no line is left, it is as if nothing were
pub answer_lineless : (q : Search) (rest : List ℕ) → (goes_on q.stage ≡ true → unended rest ≡ true) → answer_text q rest ≡ answer_text q []
unfolding answer_text
answer_lineless q rest h = go q.stage h
  where
    go : (g : Stage) → (goes_on g ≡ true → unended rest ≡ true) → stage_text g q rest ≡ stage_text g q []
    go Seeking f =
        ap (λ (x : Script). told q (decided_by q.state x.lines)) (split_none rest (f refl))
        ∙ sym (ap (λ (x : Script). told q (decided_by q.state x.lines)) split_empty)
    go FoundStage f = refl
    go (AskRefused n) f = refl
    go (PlanRefused n k) f = refl

-- nothing more is told of a search that goes on than that its slot is not decided
pub answer_end : (q : Search) → q.stage ≡ Seeking → answer_text q [] ≡ ask_refused_text 61
answer_end q e =
    at_stage q Seeking [] e
    ∙ ap (λ (x : Script). told q (decided_by q.state x.lines)) split_empty
    ∙ ap (told q) (decided_none q.state)
    ∙ none_told q

-- no line, and lines after lines
pub sought_none : (part : List ℕ) (q : Search) → Sound q → q.used ≤ length part → Sought part q q
sought_none part q s h = record { same = λ later. refl; sound = s; within = h }

pub sought_then : (part : List ℕ) (q r w : Search) → Sought part q r → Sought part r w → Sought part q w
sought_then part q r w a b = record { same = λ later. a.same later ∙ b.same later; sound = b.sound; within = b.within }

-- The search behind a slot line and behind a yield line, from what the call answers.
module _ (q : Search) (o : List ℕ) (next : ℕ) (a : Answer) (e : a ≡ slot_of q.state o 17) where
  number : (slot_of q.state o 17).refused ≡ a.refused
  number = ap (λ (x : Answer). x.refused) (sym e)

  pub slot_over : a.refused ≢ 0 → search_after q (slot_line o) next ≡ over q (AskRefused 61)
  unfolding search_after
  slot_over h = miss _ _ _ (ne_eqb _ 0 (λ z. h (sym number ∙ z)))

  pub slot_found : a.refused ≡ 0 → q.left ≡ 1 → search_after q (slot_line o) next ≡ found q o
  unfolding search_after
  slot_found h x = hit _ _ _ (eq-eqb _ 0 (number ∙ h)) ∙ hit _ _ _ (eq-eqb _ 1 x)

  pub slot_onward : a.refused ≡ 0 → q.left ≢ 1 → search_after q (slot_line o) next ≡ onward q a.state (q.left - 1) next
  unfolding search_after
  slot_onward h x =
      hit _ _ _ (eq-eqb _ 0 (number ∙ h)) ∙ miss _ _ _ (ne_eqb _ 1 x) ∙ ap (λ (y : Answer). onward q y.state (q.left - 1) next) (sym e)

module _ (q : Search) (d k next : ℕ) (y : Yielding) (e : y ≡ yield_of q.state d k) where
  yields : (yield_of q.state d k).refused ≡ y.refused
  yields = ap (λ (x : Yielding). x.refused) (sym e)

  pub yield_over : y.refused ≢ 0 → search_after q (yield_line d k) next ≡ over q (AskRefused 61)
  unfolding search_after
  yield_over h = miss _ _ _ (ne_eqb _ 0 (λ z. h (sym yields ∙ z)))

  pub yield_onward : y.refused ≡ 0 → search_after q (yield_line d k) next ≡ onward q y.state q.left next
  unfolding search_after
  yield_onward h = hit _ _ _ (eq-eqb _ 0 (yields ∙ h)) ∙ ap (λ (x : Yielding). onward q x.state q.left next) (sym e)

pub bad_over : (q : Search) (n next : ℕ) → search_after q (bad_line n) next ≡ over q (AskRefused 61)
unfolding search_after
bad_over q n next = refl

-- all of a script in one part: what is told at its end is all that is printed
pub answer_all : (plan ask script : List ℕ) (q r : Search) → Started plan ask q → Seeks script q r → why_text plan ask script ≡ answer_text r []
answer_all plan ask script q r g k =
    g.same script
    ∙ ap (λ (n : ℕ). answer_text q (drop n script)) (sym g.none)
    ∙ ap (answer_text q) (sym (append-nil (drop q.used script)))
    ∙ k.same []
    ∙ ap (answer_text r) (append-nil (drop r.used script))
    ∙ answer_lineless r (drop r.used script) (λ e. (k.lineless e).0)

-- One line.
module _ (q : Search) (part : List ℕ) (end : ℕ) (ends : LineEnd part q.used end) (shut : open_end q.used end (length part) ≡ false)
    (live : goes_on q.stage ≡ true) (sound : Sound q) (shape : Shaped q.state) where
  abbrev line : List ℕ
  line = line_in part q.used end

  abbrev done : Done
  done = carried_out q.state (meaning_of line)

  abbrev slots : List ℕ → List Decided
  slots later = decided_by q.state (split (drop q.used part ++ later)).lines

  -- the slots behind the line
  abbrev behind : State → List ℕ → List Decided
  behind t later = decided_by t (split (drop (end + 1) part ++ later)).lines

  by_lines : (later : List ℕ) (x : Script) → split (drop q.used part ++ later) ≡ x → slots later ≡ decided_by q.state x.lines
  by_lines later x e = ap (λ (y : Script). decided_by q.state y.lines) e

  -- a line that is taken ends at a byte 10
  taken_ten : done.refused ≡ 0 → (end < length part) × (nth part end ≡ 10)
  taken_ten e = go (ending part q.used end ends shut)
    where
      go : Ending part q.used end → (end < length part) × (nth part end ≡ 10)
      go (by_ten h z) = (h, z)
      go (by_length h) = absurd (omega (arith, bad_refused q.state 0 line h))

  slots_taken : done.refused ≡ 0 → (later : List ℕ) → slots later ≡ slots_from q.state (meaning_of line) (behind done.state later)
  slots_taken e later =
      let t = taken_ten e in
      by_lines later _ (split_front part q.used end ends t.0 t.1 later) ∙ decided_taken q.state line _ e

  slots_over : done.refused ≢ 0 → (later : List ℕ) → slots later ≡ []
  slots_over e later = go (ending part q.used end ends shut)
    where
      go : Ending part q.used end → slots later ≡ []
      go (by_ten h z) = by_lines later _ (split_front part q.used end ends h z later) ∙ decided_over q.state line _ e
      go (by_length h) = decided_long q.state _ (split_long part q.used end ends h later) h

  now_told : (later : List ℕ) → answer_text q (drop q.used part ++ later) ≡ told q (slots later)
  now_told later = at_stage q Seeking _ (seeking_is q.stage live)

  within : q.used ≤ length part
  within = omega (arith, ends.low, ends.high)

  -- a line that is refused
  sought_over : done.refused ≢ 0 → Sought part q (over q (AskRefused 61))
  sought_over e =
      record {
        same = λ later.
            now_told later ∙ ap (told q) (slots_over e later) ∙ none_told q ∙ sym (at_stage (over q (AskRefused 61)) (AskRefused 61) _ refl);
        sound = over_sound _ refl refl;
        within = within;
      }

  -- a line that is taken and is not the slot
  sought_on : (t : State) (left : ℕ) → done.refused ≡ 0 → done.state ≡ t → 1 ≤ left
      → ((later : List ℕ) → told q (slots_from q.state (meaning_of line) (behind t later)) ≡ found_text (slot_at left (behind t later)) q.number)
      → Sought part q (onward q t left (end + 1))
  sought_on t left e et some same =
      record {
        same = λ later.
            now_told later
            ∙ ap (told q) (slots_taken e later ∙ ap (λ (u : State). slots_from q.state (meaning_of line) (behind u later)) et)
            ∙ same later
            ∙ sym (at_stage (onward q t left (end + 1)) Seeking _ refl);
        sound =
            record {
              adds = λ z. ap adds_up (sym et) ∙ (line_taken q.state shape (sound.adds live) line e).adds;
              some = λ z. some;
              found = λ z. absurd (false≢true z);
            };
        within = omega (arith, (taken_ten e).0);
      }

  -- the slot line that decides the slot
  sought_found : (o : List ℕ) → meaning_of line ≡ slot_line o → done.refused ≡ 0 → slot_refusal q.state o 17 ≡ 0 → q.left ≡ 1
      → Sought part q (found q o)
  sought_found o m e r one =
      record {
        same = λ later.
            now_told later
            ∙ ap (told q) (slots_taken e later ∙ ap (λ (x : Meaning). slots_from q.state x (behind done.state later)) m)
            ∙ ap (λ (f : Found). found_text f q.number) (slot_here q.left _ (behind done.state later) one)
            ∙ sym (at_stage (found q o) FoundStage _ refl);
        sound = record { adds = λ z. absurd (false≢true z); some = λ z. absurd (false≢true z); found = λ z. r };
        within = within;
      }

  -- by the line's meaning
  module _ (o : List ℕ) (m : meaning_of line ≡ slot_line o) where
    slot_refuses : done.refused ≡ (slot_of q.state o 17).refused
    unfolding carried_out
    slot_refuses = ap (λ (x : Meaning). (carried_out q.state x).refused) m

    slot_leaves : done.state ≡ (slot_of q.state o 17).state
    unfolding carried_out
    slot_leaves = ap (λ (x : Meaning). (carried_out q.state x).state) m

    abbrev answer : Answer
    answer = slot_of q.state o 17

    sought_slot : Sought part q (search_after q (slot_line o) (end + 1))
    sought_slot = go (ℕ_discrete answer.refused 0) (ℕ_discrete q.left 1)
      where
        go : Dec (answer.refused ≡ 0) → Dec (q.left ≡ 1) → Sought part q (search_after q (slot_line o) (end + 1))
        go (no e) x = subst (Sought part q) (sym (slot_over q o (end + 1) answer refl e)) (sought_over (λ z. e (sym slot_refuses ∙ z)))
        go (yes e) (yes x) =
            subst (Sought part q) (sym (slot_found q o (end + 1) answer refl e x))
            (sought_found o m (slot_refuses ∙ e) (sym (slot_number q.state o 17) ∙ e) x)
        go (yes e) (no x) =
            subst (Sought part q) (sym (slot_onward q o (end + 1) answer refl e x))
            (sought_on answer.state (q.left - 1) (slot_refuses ∙ e) slot_leaves (omega (arith, sound.some live, x))
            (λ later.
            ap (λ (y : Meaning). told q (slots_from q.state y (behind answer.state later))) m
            ∙ ap (λ (f : Found). found_text f q.number) (slot_on q.left _ (behind answer.state later) x)))

  module _ (d k : ℕ) (m : meaning_of line ≡ yield_line d k) where
    yield_refuses : done.refused ≡ (yield_of q.state d k).refused
    unfolding carried_out
    yield_refuses = ap (λ (x : Meaning). (carried_out q.state x).refused) m

    yield_leaves : done.state ≡ (yield_of q.state d k).state
    unfolding carried_out
    yield_leaves = ap (λ (x : Meaning). (carried_out q.state x).state) m

    abbrev given : Yielding
    given = yield_of q.state d k

    sought_yield : Sought part q (search_after q (yield_line d k) (end + 1))
    sought_yield = go (ℕ_discrete given.refused 0)
      where
        go : Dec (given.refused ≡ 0) → Sought part q (search_after q (yield_line d k) (end + 1))
        go (no e) = subst (Sought part q) (sym (yield_over q d k (end + 1) given refl e)) (sought_over (λ z. e (sym yield_refuses ∙ z)))
        go (yes e) =
            subst (Sought part q) (sym (yield_onward q d k (end + 1) given refl e))
            (sought_on given.state q.left (yield_refuses ∙ e) yield_leaves (sound.some live)
            (λ later. ap (λ (y : Meaning). told q (slots_from q.state y (behind given.state later))) m))

  sought_bad : (n : ℕ) → meaning_of line ≡ bad_line n → Sought part q (search_after q (bad_line n) (end + 1))
  unfolding carried_out
  sought_bad n m =
      subst (Sought part q) (sym (bad_over q n (end + 1)))
      (sought_over (λ z. omega (arith, bad_line_lem line n m, sym (ap (λ (x : Meaning). (carried_out q.state x).refused) m) ∙ z)))

  pub sought_line : Sought part q (search_after q (meaning_of line) (end + 1))
  sought_line = go (meaning_of line) refl
    where
      go : (m : Meaning) → meaning_of line ≡ m → Sought part q (search_after q m (end + 1))
      go (slot_line o) e = sought_slot o e
      go (yield_line d k) e = sought_yield d k e
      go (bad_line n) e = sought_bad n e

-- A search that goes on behind a line is further on.
abbrev Further : ℕ → Search → Type 0
Further next r = goes_on r.stage ≡ true → r.used ≡ next

over_further : (q : Search) (next : ℕ) → Further next (over q (AskRefused 61))
over_further q next z = absurd (false≢true z)

pub further : (q : Search) (m : Meaning) (next : ℕ) → goes_on (search_after q m next).stage ≡ true → (search_after q m next).used ≡ next
further q (slot_line o) next = go (ℕ_discrete (slot_of q.state o 17).refused 0) (ℕ_discrete q.left 1)
  where
    go : Dec ((slot_of q.state o 17).refused ≡ 0) → Dec (q.left ≡ 1) → Further next (search_after q (slot_line o) next)
    go (no e) x = subst (Further next) (sym (slot_over q o next _ refl e)) (over_further q next)
    go (yes e) (yes x) = subst (Further next) (sym (slot_found q o next _ refl e x)) (λ z. absurd (false≢true z))
    go (yes e) (no x) = subst (Further next) (sym (slot_onward q o next _ refl e x)) (λ z. refl)
further q (yield_line d k) next = go (ℕ_discrete (yield_of q.state d k).refused 0)
  where
    go : Dec ((yield_of q.state d k).refused ≡ 0) → Further next (search_after q (yield_line d k) next)
    go (no e) = subst (Further next) (sym (yield_over q d k next _ refl e)) (over_further q next)
    go (yes e) = subst (Further next) (sym (yield_onward q d k next _ refl e)) (λ z. refl)
further q (bad_line n) next = subst (Further next) (sym (bad_over q n next)) (over_further q next)

-- so each line leaves less to do
pub less_left : (x y : Bool) (a b n : ℕ) → x ≡ true → a ≤ n → (y ≡ true → a < b) → b ≤ n → cond y (n + 1 - b) 0 < cond x (n + 1 - a) 0
less_left x true a b n e h g k = rw e (omega (arith, g refl))
less_left x false a b n e h g k = rw e (omega arith)

-- The start: the question is malformed, or the plan is refused, or slot 0 is asked for, or the search goes on.
module _ (plan ask : List ℕ) (s : State) where
  pub started_malformed : question_of ask ≡ malformed → Started plan ask (begun (AskRefused 63) s 0 0)
  unfolding why_text
  started_malformed e =
      record {
        same = λ script.
            ap (λ (x : Question). answer_to x plan script) e ∙ sym (at_stage (begun (AskRefused 63) s 0 0) (AskRefused 63) script refl);
        sound = over_sound _ refl refl;
        none = refl;
      }

  module _ (slot n : ℕ) (e : question_of ask ≡ asks slot n) where
    asked : (script : List ℕ) → why_text plan ask script ≡ asked_text plan script slot n
    unfolding why_text
    asked script = ap (λ (x : Question). answer_to x plan script) e

    -- by the stage that it begins with
    abbrev Starts : Stage → Type 0
    Starts g = Started plan ask (begun g s slot n)

    -- the plan is refused
    pub started_refused : (m k : ℕ) → m ≢ 0 → (read_plan plan).refused ≡ m → (read_plan plan).place ≡ k → Starts (PlanRefused m k)
    unfolding asked_text
    started_refused m k h em ek =
        let g = PlanRefused m k in
        record {
          same = λ script.
              asked script
              ∙ miss _ _ _ (ne_eqb (read_plan plan).refused 0 (λ z. h (sym em ∙ z)))
              ∙ ap₂ plan_refused_text em ek
              ∙ sym (at_stage (begun g s slot n) g script refl);
          sound = over_sound _ refl refl;
          none = refl;
        }

    module _ (h : (read_plan plan).refused ≡ 0) (es : s ≡ (open_plan (read_plan plan).plan).state) where
      in_order : (script : List ℕ) → why_text plan ask script ≡ found_text (slot_at slot (decided_by s (split script).lines)) n
      unfolding asked_text
      in_order script =
          asked script
          ∙ hit _ _ _ (eq-eqb (read_plan plan).refused 0 h)
          ∙ ap (λ (t : State). found_text (slot_at slot (decided_by t (split script).lines)) n) (sym es)

      slot_zero_asked : slot ≡ 0 → Starts (AskRefused 61)
      slot_zero_asked z =
          record {
            same = λ script.
                in_order script
                ∙ ap (λ (f : Found). found_text f n)
                (ap (λ (k : ℕ). slot_at k (decided_by s (split script).lines)) z ∙ slot_zero (decided_by s (split script).lines))
                ∙ sym (at_stage (begun (AskRefused 61) s slot n) (AskRefused 61) script refl);
            sound = over_sound _ refl refl;
            none = refl;
          }

      slot_asked : slot ≢ 0 → Starts Seeking
      slot_asked z =
          let p = (read_plan plan).plan in
          let a = read_is_accepted plan h in
          let taken : (plan_refusal p).refused ≡ 0 = ap (λ (x : Refusal). x.refused) a.1 in
          record {
            same = λ script. in_order script ∙ sym (at_stage (begun Seeking s slot n) Seeking script refl);
            sound =
                record {
                  adds = λ y. ap adds_up es ∙ opening_adds_up p a.0 (opening_taken p taken);
                  some = λ y. omega (arith, z);
                  found = λ y. absurd (false≢true y);
                };
            none = refl;
          }

    pub started_asked : (read_plan plan).refused ≡ 0 → s ≡ (open_plan (read_plan plan).plan).state → Starts (first_stage slot)
    unfolding first_stage
    started_asked h es = go (ℕ_discrete slot 0)
      where
        go : Dec (slot ≡ 0) → Starts (first_stage slot)
        go (yes z) = subst Starts (sym (hit _ _ _ (eq-eqb _ 0 z))) (slot_zero_asked h es z)
        go (no z) = subst Starts (sym (miss _ _ _ (ne_eqb _ 0 z))) (slot_asked h es z)
