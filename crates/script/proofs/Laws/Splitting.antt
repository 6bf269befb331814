-- Laws of a script's lines: the first line and what follows it, a script without a byte 10, and a first line that is too long.
-- Assumes nothing.
use mathlib.Core.Path.{◌≡◌, refl, sym, ap, ap₂, subst, ◌∙◌}
use mathlib.Core.Logic.{◌≢◌}
use mathlib.Core.Bool.{Bool, true, false, not, false≢true}
use mathlib.Core.List.{List, [], ◌∷◌, ◌++◌, append_assoc}
use Prim.Native.Nat.{ℕ, suc, ◌+◌, ◌-◌, ◌≤◌, ◌<◌, min}
use native.Mathlib.Numerals.{add-one}
use native.Mathlib.Decide.{ℕ_discrete}
use native.Mathlib.Omega.{arith}
use lib.Dec.{eqb, ltb}
use lib.ListN.{length, get_or, take, drop, length-take, length-drop, take-append-drop}
use lib.Seq.{get_or-take, get_or-drop, drop-cons, drop-drop, length-take-le}
use borrow.Author.Tests.{not-true, ltb-false, eq-eqb, ne_eqb, eqb-true}
use Rattle.std.specs.Prelude.{Option, Some, None}
use Rattle.std.specs.Option.{unwrap_or}
use Rattle.std.specs.List.{position, position_or_len}
use Rattle.std.proofs.lemmas.List.Sums.{fails_before_first}
use Rattle.std.proofs.lemmas.List.Quantifiers.{position-Some}
use Rattle.std.proofs.lemmas.Grind.{common_steps}
use Rattle.table.specs.Sums.{nth}
use Rattle.table.proofs.Tables.{miss, hit, both}
use Rattle.table.proofs.Members.{each_first, each_all}
use Rattle.regulator.specs.declared.state.State.{State}
use Rattle.script.specs.Line.{Meaning, meaning_of}
use Rattle.script.specs.Text.{open_text, line_refused_text}
use Rattle.script.specs.Replay.{Script, ahead, split, carried_out, lines_text}
use Rattle.script.specs.Feeding.{unended}
use Rattle.script.specs.Inner.{Stop, at_ten, too_long, at_end, LineEnd, open_end}
use Rattle.script.proofs.Laws.Reading.{line_long}

-- a byte 10 ends a line; any other byte belongs to the line or the last part that it stands before
split_ten : (b : ℕ) (l : List ℕ) → eqb b 10 ≡ true → split (b ∷ l) ≡ record { lines = [] ∷ (split l).lines; last = (split l).last }
unfolding split
split_ten b l e = hit _ _ _ e

split_other : (b : ℕ) (l : List ℕ) → not (eqb b 10) ≡ true → split (b ∷ l) ≡ ahead b (split l).lines (split l).last
unfolding split
split_other b l e = miss _ _ _ (not-true (eqb b 10) e)

pub split_empty : split [] ≡ record { lines = []; last = [] }
unfolding split
split_empty = refl

-- the first line
pub split_line : (line more : List ℕ) → unended line ≡ true
    → split (line ++ (10 ∷ more)) ≡ record { lines = line ∷ (split more).lines; last = (split more).last }
split_line [] more e = split_ten 10 more refl
split_line (b ∷ line) more e =
    let c = each_first (λ (x : ℕ). not (eqb x 10)) b line e in
    split_other b (line ++ (10 ∷ more)) c.0 ∙ ap (λ (s : Script). ahead b s.lines s.last) (split_line line more c.1)

-- no line
pub split_none : (l : List ℕ) → unended l ≡ true → split l ≡ record { lines = []; last = l }
split_none [] e = split_empty
split_none (b ∷ l) e =
    let c = each_first (λ (x : ℕ). not (eqb x 10)) b l e in
    split_other b l c.0 ∙ ap (λ (s : Script). ahead b s.lines s.last) (split_none l c.1)

-- Bytes without a byte 10 in front: they are in the first line, or in the last part where there is no line.
pub data FirstLong (n : ℕ) : Script → Type 0 where
  in_line : (line : List ℕ) (lines : List (List ℕ)) (last : List ℕ) → n ≤ length line → FirstLong n (record { lines = line ∷ lines; last = last })
  in_last : (last : List ℕ) → n ≤ length last → FirstLong n (record { lines = []; last = last })

long_none : (lines : List (List ℕ)) (last : List ℕ) → FirstLong 0 (record { lines = lines; last = last })
long_none [] last = in_last last (omega arith)
long_none (line ∷ lines) last = in_line line lines last (omega arith)

long_more : (b n : ℕ) (s : Script) → FirstLong n s → FirstLong (suc n) (ahead b s.lines s.last)
long_more b n s (in_line line lines last h) = in_line (b ∷ line) lines last (omega arith)
long_more b n s (in_last last h) = in_last (b ∷ last) (omega arith)

first_long : (front more : List ℕ) → unended front ≡ true → FirstLong (length front) (split (front ++ more))
first_long [] more e = long_none (split more).lines (split more).last
first_long (b ∷ front) more e =
    let c = each_first (λ (x : ℕ). not (eqb x 10)) b front e in
    rw (split_other b (front ++ more) c.0) (long_more b (length front) (split (front ++ more)) (first_long front more c.1))

-- The line of a part from `used` to its end, as a search for the end found it.
abbrev pub line_in : (part : List ℕ) (used end : ℕ) → List ℕ
line_in part used end = take (end - used) (drop used part)

-- it ends at a byte 10, or it is too long
pub data Ending (part : List ℕ) (used end : ℕ) : Type 0 where
  by_ten : end < length part → nth part end ≡ 10 → Ending part used end
  by_length : 20 ≤ length (line_in part used end) → Ending part used end

module _ (part : List ℕ) (used end : ℕ) (ends : LineEnd part used end) where
  abbrev line : List ℕ
  line = line_in part used end

  line_length : length line ≡ end - used
  line_length = length-take-le (end - used) (drop used part) (omega (arith, length-drop used part, ends.high))

  pub ending : open_end used end (length part) ≡ false → Ending part used end
  ending shut = go ends.stop
    where
      go : Stop part used end → Ending part used end
      go (at_ten h e) = by_ten h e
      go (too_long e) = by_length (omega (arith, line_length))
      go (at_end e) = by_length (by (ltb (end - used) 20) refl)
        where
          by : (t : Bool) → ltb (end - used) 20 ≡ t → 20 ≤ length line
          by true q = absurd (false≢true (sym shut ∙ both (eq-eqb end (length part) e) q))
          by false q = omega (arith, line_length, ltb-false (end - used) 20 q)

  -- what is left of the part, from the line on
  front : drop used part ≡ line ++ drop end part
  front =
      let k : used + (end - used) ≡ end = omega (arith, ends.low) in
      sym (take-append-drop (end - used) (drop used part))
      ∙ ap (λ (l : List ℕ). take (end - used) (drop used part) ++ l) (drop-drop (end - used) used part ∙ ap (λ (n : ℕ). drop n part) k)

  cut : end < length part → nth part end ≡ 10 → drop end part ≡ 10 ∷ drop (end + 1) part
  cut h e = drop-cons part end 0 h ∙ ap₂ (λ (b : ℕ) (n : ℕ). b ∷ drop n part) e (sym (add-one end))

  -- the line, and what follows it; or a first line that is too long, whatever follows
  pub split_front : end < length part → nth part end ≡ 10 → (later : List ℕ)
      → split (drop used part ++ later)
      ≡ record { lines = line ∷ (split (drop (end + 1) part ++ later)).lines; last = (split (drop (end + 1) part ++ later)).last }
  split_front h e later =
      ap split (ap (λ (l : List ℕ). l ++ later) (front ∙ ap (λ (l : List ℕ). line ++ l) (cut h e)) ∙ append_assoc line (10 ∷ drop (end + 1) part) later)
      ∙ split_line line (drop (end + 1) part ++ later) ends.clear

  pub split_long : 20 ≤ length line → (later : List ℕ) → FirstLong (length line) (split (drop used part ++ later))
  split_long h later =
      subst (λ (l : List ℕ). FirstLong (length line) (split l)) (sym (ap (λ (l : List ℕ). l ++ later) front ∙ append_assoc line (drop end part) later))
      (first_long line (drop end part ++ later) ends.clear)

-- what is printed for a line, and at the end of the script
module _ (s : State) (L : ℕ) where
  pub text_line : (line : List ℕ) (lines : List (List ℕ)) (last : List ℕ) → (carried_out s (meaning_of line)).refused ≡ 0
      → lines_text s L (line ∷ lines) last ≡ (carried_out s (meaning_of line)).prints ++ lines_text (carried_out s (meaning_of line)).state (L + 1) lines last
  unfolding lines_text
  text_line line lines last e = hit _ _ _ (eq-eqb (carried_out s (meaning_of line)).refused 0 e)

  pub text_refused : (line : List ℕ) (lines : List (List ℕ)) (last : List ℕ) → (carried_out s (meaning_of line)).refused ≢ 0
      → lines_text s L (line ∷ lines) last ≡ line_refused_text L (carried_out s (meaning_of line)).refused
  unfolding lines_text
  text_refused line lines last e = miss _ _ _ (ne_eqb (carried_out s (meaning_of line)).refused 0 e)

  pub text_end : lines_text s L [] [] ≡ open_text s.decided
  unfolding lines_text
  text_end = refl

  pub text_last : (last : List ℕ) → 1 ≤ length last → lines_text s L [] last ≡ line_refused_text L 41
  unfolding lines_text
  text_last last h = miss _ _ _ (ne_eqb (length last) 0 (λ e. omega arith))

  pub bad_refused : (line : List ℕ) → 20 ≤ length line → (carried_out s (meaning_of line)).refused ≡ 41
  unfolding carried_out
  bad_refused line h = ap (λ (m : Meaning). (carried_out s m).refused) (line_long line h)

  -- a first line that is too long is refused
  pub text_long : (n : ℕ) {x : Script} → FirstLong n x → 20 ≤ n → lines_text s L x.lines x.last ≡ line_refused_text L 41
  text_long n (in_line line lines last g) h =
      let m = bad_refused line (omega arith) in
      text_refused line lines last (λ z. omega (arith, m)) ∙ ap (line_refused_text L) m
  text_long n (in_last last g) h = text_last last (omega arith)

-- The search for a line's end: the place of the first byte 10 among the next 20 bytes, or behind them where there is none.
module _ (part : List ℕ) (from most : ℕ) (inside : from ≤ length part) where
  abbrev ten : ℕ → Bool
  ten b = eqb b 10

  abbrev rest : List ℕ
  rest = take (length part - from) (drop from part)

  module _ (few : most ≡ min (length rest) 20) where
    abbrev window : List ℕ
    window = take most rest

    rest_length : length rest ≡ length part - from
    rest_length = length-take-le (length part - from) (drop from part) (omega (arith, length-drop from part))

    window_length : length window ≡ most
    window_length = length-take-le most rest (omega (arith, few))

    byte_in : (k : ℕ) → k < most → get_or window k 0 ≡ nth part (from + k)
    byte_in k h =
        get_or-take most rest k 0 h
        ∙ get_or-take (length part - from) (drop from part) k 0 (omega (arith, few, rest_length))
        ∙ get_or-drop from part k 0

    clear_to : (n : ℕ) → n ≤ most → ((k : ℕ) → k < n → ten (get_or window k 0) ≡ false) → unended (take (from + n - from) (drop from part)) ≡ true
    clear_to n h none =
        let z : from + n - from ≡ n = omega arith in
        rw z (each_all (λ (b : ℕ). not (ten b)) (take n (drop from part)) (λ k g.
        let lt : k < n = omega (arith, length-take n (drop from part)) in
        let e : get_or (take n (drop from part)) k 0 ≡ get_or window k 0 =
        get_or-take n (drop from part) k 0 lt ∙ get_or-drop from part k 0 ∙ sym (byte_in k (omega arith)) in
        ap (λ (b : ℕ). not (ten b)) e ∙ ap not (none k lt)))

    pub line_found : (o : Option ℕ) → o ≡ position ten window → LineEnd part from (from + unwrap_or o most)
    line_found None e =
        let past : length window ≤ position_or_len ten window = grind (arith, common_steps) in
        record {
          low = omega arith;
          high = omega (arith, few, rest_length, inside);
          clear = clear_to most (omega arith) (λ k h. fails_before_first ten window k 0 (omega (arith, past, window_length)));
          stop = go (ℕ_discrete most 20);
        }
      where
        go : Dec (most ≡ 20) → Stop part from (from + most)
        go (yes q) = too_long (omega arith)
        go (no q) = at_end (omega (arith, few, rest_length, inside))
    line_found (Some i) e =
        let f = position-Some ten window i 0 (sym e) in
        let low : i < most = omega (arith, f.0, window_length) in
        record {
          low = omega arith;
          high = omega (arith, low, few, rest_length, inside);
          clear = clear_to i (omega arith) f.2;
          stop = at_ten (omega (arith, low, few, rest_length, inside)) (sym (byte_in i low) ∙ eqb-true _ _ f.1);
        }
