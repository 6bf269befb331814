-- Laws of one line's reading: digits, the first space, and which form a line has.
-- Assumes nothing.
use mathlib.Core.Path.{◌≡◌, refl, sym, ap, ap₂, ◌∙◌}
use mathlib.Core.Logic.{◌≢◌}
use mathlib.Core.Bool.{Bool, true, false, cond, ◌&&◌, and-false}
use mathlib.Core.List.{List, [], ◌∷◌, ◌++◌}
use Prim.Native.Nat.{ℕ, ◌+◌, ◌-◌, ◌*◌, ◌≤◌, ◌<◌}
use native.Mathlib.Numerals.{add-one}
use native.Mathlib.Omega.{arith}
use lib.Dec.{eqb, leb}
use lib.ListN.{length, get_or, take, drop, set, length-drop, length-map, drop_of_length-le, get_or-map}
use lib.Seq.{drop-cons, take-suc, take-suc-set, take_all}
use borrow.Author.Tests.{leb-true, eq-eqb, ne_eqb}
use Rattle.table.specs.Sums.{nth}
use Rattle.table.proofs.Tables.{miss, hit, both, and_both}
use Rattle.table.specs.Members.{each}
use Rattle.script.specs.Line.{is_digit, digits_only, is_number, value_from, value_of, before, behind, slot_line, yield_line, bad_line, is_slot, offers_of, slot_meaning, is_yield, yield_meaning, begins, meaning_of, offers_in}
use Rattle.std.specs.Prelude.{Some, None}
use Rattle.std.specs.List.{list_all, position, position_or_len}
use Rattle.std.proofs.lemmas.List.Recursion.{is_position_or_len}
use Rattle.std.proofs.lemmas.Option.{cond_some}
use Rattle.std.proofs.lemmas.Grind.{common_steps}
use Rattle.script.specs.Inner.{number_in, numbers_in}
use Rattle.script.specs.declared.line.Numbers.{Numbers}

pub digit_least : (b : ℕ) → is_digit b ≡ true → (48 ≤ b) × (b ≤ 57)
unfolding is_digit
digit_least b e = let d = and_both (leb 48 b) (leb b 57) e in (leb-true 48 b d.0, leb-true b 57 d.1)

-- the number that digits write, one digit on
pub value_more : (n : ℕ) (l : List ℕ) (i : ℕ) → i < length l → value_from n (drop i l) ≡ value_from (n * 10 + (get_or l i 0 - 48)) (drop (i + 1) l)
unfolding value_from
value_more n l i h = rw (add-one, drop-cons l i 0)

pub value_none : (n : ℕ) (l : List ℕ) (i : ℕ) → length l ≤ i → value_from n (drop i l) ≡ n
unfolding value_from
value_none n l i h = ap (value_from n) (drop_of_length-le l h)

-- a test of each member, in std's words
pub each_list : (test : ℕ → Bool) (l : List ℕ) → each test l ≡ list_all test l
unfolding each
each_list test [] = refl
each_list test (x ∷ l) = ap (λ t. test x && t) (each_list test l)

abbrev is_space : ℕ → Bool
is_space b = eqb b 32

-- what stands before the first space is as long as its place says
space_place : (l : List ℕ) → length (before l) ≡ position_or_len is_space l
unfolding before
space_place = is_position_or_len (λ l. length (before l)) is_space refl (λ x l. go x l (eqb x 32))
  where
    go : (x : ℕ) (l : List ℕ) (t : Bool) → length (cond t [] (x ∷ before l)) ≡ cond t 0 (1 + length (before l))
    go x l true = refl
    go x l false = omega arith

front_is : (l : List ℕ) → take (length (before l)) l ≡ before l
unfolding before
front_is [] = refl
front_is (x ∷ l) = go (eqb x 32) (front_is l)
  where
    go : (t : Bool) → take (length (before l)) l ≡ before l → take (length (cond t [] (x ∷ before l))) (x ∷ l) ≡ cond t [] (x ∷ before l)
    go true e = refl
    go false e = ap (λ m. x ∷ m) e

back_is : (l : List ℕ) → drop (length (before l) + 1) l ≡ behind l
unfolding before behind
back_is [] = refl
back_is (x ∷ l) = go (eqb x 32) (back_is l)
  where
    go : (t : Bool) → drop (length (before l) + 1) l ≡ behind l → drop (length (cond t [] (x ∷ before l)) + 1) (x ∷ l) ≡ cond t l (behind l)
    go true e = refl
    go false e = ap (λ k. drop k (x ∷ l)) (add-one (length (x ∷ before l))) ∙ ap (λ k. drop k l) (sym (add-one (length (before l)))) ∙ e

pub space_found : (l : List ℕ) (n : ℕ) → position is_space l ≡ Some n → (n < length l) × (take n l ≡ before l) × (drop (n + 1) l ≡ behind l)
space_found l n e =
    let p = space_place l in
    let at : n ≡ length (before l) = grind (arith, common_steps) in
    let within : n < length l = grind (arith, common_steps) in
    (within, ap (λ k. take k l) at ∙ front_is l, ap (λ k. drop (k + 1) l) at ∙ back_is l)

pub no_space : (l : List ℕ) → position is_space l ≡ None → behind l ≡ []
no_space l e =
    let p = space_place l in
    let past : length l ≤ length (before l) + 1 = grind (arith, common_steps) in
    sym (back_is l) ∙ drop_of_length-le l past

none_so : {A : Type 0} (x : A) (b : Bool) → cond b (Some x) None ≡ None → b ≡ false
none_so x true e = cc
none_so x false e = refl

-- a number is short, and all digits
pub number_is : (most : ℕ) (l : List ℕ) → is_number most l ≡ true → (1 ≤ length l) × (length l ≤ most) × (digits_only l ≡ true)
unfolding is_number
number_is most l e =
    let a = and_both (leb 1 (length l)) (leb (length l) most && digits_only l) e in
    let b = and_both (leb (length l) most) (digits_only l) a.1 in
    (leb-true 1 (length l) a.0, leb-true (length l) most b.0, b.1)

pub none_no_number : (most : ℕ) → is_number most [] ≡ false
unfolding is_number
none_no_number most = refl

-- a number, and bytes that are none
pub number_written : (most : ℕ) (l : List ℕ) → is_number most l ≡ true → number_in most l ≡ Some (value_of l)
unfolding number_in
number_written most l e = hit _ _ _ e

pub no_number : (most : ℕ) (l : List ℕ) → is_number most l ≡ false → number_in most l ≡ None
unfolding number_in
no_number most l e = miss _ _ _ e

number_of : (most : ℕ) (l : List ℕ) (n : ℕ) → number_in most l ≡ Some n → (is_number most l ≡ true) × (value_of l ≡ n)
unfolding number_in
number_of most l n e = cond_some (is_number most l) (value_of l) n e

not_one : (most : ℕ) (l : List ℕ) → number_in most l ≡ None → is_number most l ≡ false
unfolding number_in
not_one most l e = none_so (value_of l) (is_number most l) e

-- Two numbers that are written, and one that is not.
module _ (most more : ℕ) (l : List ℕ) where
  pub numbers_written : is_number most (before l) ≡ true → is_number more (behind l) ≡ true
      → numbers_in most more l ≡ Some (record { first = value_of (before l); second = value_of (behind l) })
  unfolding numbers_in
  numbers_written a b = hit _ _ _ (both a b)

  pub numbers_no_first : is_number most (before l) ≡ false → numbers_in most more l ≡ None
  unfolding numbers_in
  numbers_no_first a = miss _ _ _ (ap (λ (t : Bool). t && is_number more (behind l)) a)

  pub numbers_no_second : is_number more (behind l) ≡ false → numbers_in most more l ≡ None
  unfolding numbers_in
  numbers_no_second a = miss _ _ _ (ap (λ (t : Bool). is_number most (before l) && t) a ∙ and-false (is_number most (before l)))

  -- the parts in front of the first space and behind it, one after the other
  pub numbers_unspaced : position is_space l ≡ None → numbers_in most more l ≡ None
  numbers_unspaced e = numbers_no_second (ap (is_number more) (no_space l e) ∙ none_no_number more)

  module _ (n : ℕ) (e : position is_space l ≡ Some n) where
    rest_is : take (length l - (n + 1)) (drop (n + 1) l) ≡ behind l
    rest_is = take_all (length l - (n + 1)) (drop (n + 1) l) (omega (arith, length-drop (n + 1) l)) ∙ (space_found l n e).2

    pub first_unwritten : number_in most (take n l) ≡ None → numbers_in most more l ≡ None
    first_unwritten a = numbers_no_first (ap (is_number most) (sym (space_found l n e).1) ∙ not_one most (take n l) a)

    pub second_unwritten : number_in more (take (length l - (n + 1)) (drop (n + 1) l)) ≡ None → numbers_in most more l ≡ None
    second_unwritten b = numbers_no_second (ap (is_number more) (sym rest_is) ∙ not_one more _ b)

    pub numbers_found : (x y : ℕ) → number_in most (take n l) ≡ Some x → number_in more (take (length l - (n + 1)) (drop (n + 1) l)) ≡ Some y
        → numbers_in most more l ≡ Some (record { first = x; second = y })
    numbers_found x y a b =
        let f = number_of most (take n l) x a in
        let g = number_of more _ y b in
        let front = (space_found l n e).1 in
        numbers_written (ap (is_number most) (sym front) ∙ f.0) (ap (is_number more) (sym rest_is) ∙ g.0)
        ∙ ap₂ (λ (i j : ℕ). Some (record { first = i; second = j })) (ap value_of (sym front) ∙ f.1) (ap value_of (sym rest_is) ∙ g.1)

  -- what the answer tells: whether both are written, and the two where they are
  abbrev both_written : Bool
  both_written = is_number most (before l) && is_number more (behind l)

  pub written_values : (n : Numbers) → numbers_in most more l ≡ Some n
      → (both_written ≡ true) × (n.first ≡ value_of (before l)) × (n.second ≡ value_of (behind l))
  unfolding numbers_in
  written_values n e =
      let s = cond_some both_written _ n e in
      (s.0, ap (λ (m : Numbers). m.first) (sym s.1), ap (λ (m : Numbers). m.second) (sym s.1))

  pub unwritten : numbers_in most more l ≡ None → both_written ≡ false
  unfolding numbers_in
  unwritten e = none_so (record { first = value_of (before l); second = value_of (behind l) }) both_written e

-- What a yield line means: its two numbers, or where one is none.
module _ (l : List ℕ) where
  pub yield_read : (n : Numbers) → numbers_in 2 4 l ≡ Some n → yield_line n.first n.second ≡ yield_meaning l
  unfolding yield_meaning is_yield
  yield_read n e =
      let v = written_values 2 4 l n e in
      ap₂ yield_line v.1 v.2 ∙ sym (hit _ _ _ v.0)

  pub yield_unread : numbers_in 2 4 l ≡ None → bad_line 41 ≡ yield_meaning l
  unfolding yield_meaning is_yield
  yield_unread e = sym (miss _ _ _ (unwritten 2 4 l e))

  pub yield_bad_domain : is_number 2 (before l) ≡ false → yield_meaning l ≡ bad_line 41
  unfolding yield_meaning is_yield
  yield_bad_domain a = miss _ _ _ (ap (λ (t : Bool). t && is_number 4 (behind l)) a)

  pub yield_bad_count : is_number 4 (behind l) ≡ false → yield_meaning l ≡ bad_line 41
  unfolding yield_meaning is_yield
  yield_bad_count a = miss _ _ _ (ap (λ (t : Bool). is_number 2 (before l) && t) a ∙ and-false (is_number 2 (before l)))

-- What a slot line means.
module _ (l : List ℕ) where
  pub slot_is : length l ≡ 17 → digits_only l ≡ true → is_slot l ≡ true
  unfolding is_slot
  slot_is a b = both (eq-eqb (length l) 17 a) b

  pub slot_short : length l ≢ 17 → is_slot l ≡ false
  unfolding is_slot
  slot_short a = ap (λ (t : Bool). t && digits_only l) (ne_eqb (length l) 17 a)

  pub slot_other : digits_only l ≡ false → is_slot l ≡ false
  unfolding is_slot
  slot_other a = ap (λ (t : Bool). eqb (length l) 17 && t) a ∙ and-false (eqb (length l) 17)

  pub slot_good : is_slot l ≡ true → slot_meaning l ≡ slot_line (offers_of l)
  unfolding slot_meaning
  slot_good e = hit _ _ _ e

  pub slot_bad : is_slot l ≡ false → slot_meaning l ≡ bad_line 41
  unfolding slot_meaning
  slot_bad e = miss _ _ _ e

-- Which letter a line begins with.
module _ (l : List ℕ) where
  begins_not : (letter : ℕ) → nth l 0 ≢ letter → begins letter l ≡ false
  begins_not letter n = ap (λ (t : Bool). t && eqb (nth l 1) 32) (ne_eqb (nth l 0) letter n)

  unspaced : (letter : ℕ) → nth l 1 ≢ 32 → begins letter l ≡ false
  unspaced letter n = ap (λ (t : Bool). eqb (nth l 0) letter && t) (ne_eqb (nth l 1) 32 n) ∙ and-false (eqb (nth l 0) letter)

  begins_so : (letter : ℕ) → nth l 0 ≡ letter → nth l 1 ≡ 32 → begins letter l ≡ true
  begins_so letter a b = both (eq-eqb (nth l 0) letter a) (eq-eqb (nth l 1) 32 b)

  neither_form : begins 115 l ≡ false → begins 121 l ≡ false → meaning_of l ≡ bad_line 41
  unfolding meaning_of
  neither_form a b = miss _ _ _ a ∙ miss _ _ _ b

  no_offers : begins 115 l ≡ false → (buffer : List ℕ) → offers_in l buffer ≡ buffer
  unfolding offers_in
  no_offers a buffer = miss _ _ _ (ap (λ (t : Bool). t && is_slot (drop 2 l)) a)

  -- a line of neither form, whatever the buffer holds
  pub line_unspaced : nth l 1 ≢ 32 → (meaning_of l ≡ bad_line 41) × ((buffer : List ℕ) → offers_in l buffer ≡ buffer)
  line_unspaced n = (neither_form (unspaced 115 n) (unspaced 121 n), no_offers (unspaced 115 n))

  pub line_other : nth l 0 ≢ 115 → nth l 0 ≢ 121 → (meaning_of l ≡ bad_line 41) × ((buffer : List ℕ) → offers_in l buffer ≡ buffer)
  line_other m n = (neither_form (begins_not 115 m) (begins_not 121 n), no_offers (begins_not 115 m))

  pub line_slot : nth l 0 ≡ 115 → nth l 1 ≡ 32
      → (meaning_of l ≡ slot_meaning (drop 2 l)) × ((buffer : List ℕ) → offers_in l buffer ≡ cond (is_slot (drop 2 l)) (offers_of (drop 2 l)) buffer)
  unfolding meaning_of offers_in
  line_slot a b =
      let e = begins_so 115 a b in
      (hit _ _ _ e, λ buffer. ap (λ (t : Bool). cond (t && is_slot (drop 2 l)) (offers_of (drop 2 l)) buffer) e)

  pub line_yield : nth l 0 ≢ 115 → nth l 0 ≡ 121 → nth l 1 ≡ 32
      → (meaning_of l ≡ yield_meaning (drop 2 l)) × ((buffer : List ℕ) → offers_in l buffer ≡ buffer)
  unfolding meaning_of
  line_yield n a b = (miss _ _ _ (begins_not 115 n) ∙ hit _ _ _ (begins_so 121 a b), no_offers (begins_not 115 n))

-- A line of more than 19 bytes is of neither form.
before_behind : (l : List ℕ) → length l ≤ length (before l) + 1 + length (behind l)
unfolding before behind
before_behind [] = omega arith
before_behind (b ∷ l) = go (eqb b 32) (before_behind l)
  where
    go : (t : Bool) → length l ≤ length (before l) + 1 + length (behind l)
        → length (b ∷ l) ≤ length (cond t [] (b ∷ before l)) + 1 + length (cond t l (behind l))
    go true h = omega arith
    go false h = omega arith

yield_long : (l : List ℕ) → 8 ≤ length l → yield_meaning l ≡ bad_line 41
yield_long l h = go (is_number 2 (before l)) (is_number 4 (behind l)) refl refl
  where
    go : (a b : Bool) → is_number 2 (before l) ≡ a → is_number 4 (behind l) ≡ b → yield_meaning l ≡ bad_line 41
    go false b ea eb = yield_bad_domain l ea
    go true false ea eb = yield_bad_count l eb
    go true true ea eb = absurd (omega (arith, before_behind l, (number_is 2 (before l) ea).1, (number_is 4 (behind l) eb).1))

pub line_long : (l : List ℕ) → 20 ≤ length l → meaning_of l ≡ bad_line 41
unfolding meaning_of
line_long l h = go (begins 115 l) (begins 121 l)
  where
    n : length (drop 2 l) ≡ length l - 2
    n = length-drop 2 l

    go : (a b : Bool) → cond a (slot_meaning (drop 2 l)) (cond b (yield_meaning (drop 2 l)) (bad_line 41)) ≡ bad_line 41
    go true b = slot_bad (drop 2 l) (slot_short (drop 2 l) (λ e. omega (arith, n)))
    go false true = yield_long (drop 2 l) (omega (arith, n))
    go false false = refl

-- Offers that are copied digit by digit.
module _ (l : List ℕ) where
  pub offers_length : length (offers_of l) ≡ length l
  unfolding offers_of
  offers_length = length-map l (λ (b : ℕ). b - 48)

  pub offers_at_lem : (i : ℕ) → nth (offers_of l) i ≡ nth l i - 48
  unfolding offers_of
  offers_at_lem i = get_or-map (λ (b : ℕ). b - 48) l i 0

  pub offers_more : (o : List ℕ) (i x : ℕ) → i < length o → i < length l → x ≡ nth l i - 48 → take i o ≡ take i (offers_of l)
      → take (i + 1) (set o i x) ≡ take (i + 1) (offers_of l)
  offers_more o i x h g e t =
      let a : take (i + 1) (set o i x) ≡ take i o ++ (x ∷ []) = rw (add-one) (take-suc-set o i x h) in
      let b : take (i + 1) (offers_of l) ≡ take i (offers_of l) ++ (nth (offers_of l) i ∷ []) =
      rw (add-one) (take-suc (offers_of l) i 0 (omega (arith, offers_length))) in
      a ∙ ap₂ (λ (m : List ℕ) (n : ℕ). m ++ (n ∷ [])) t (e ∙ sym (offers_at_lem i)) ∙ sym b

  pub offers_all : (o : List ℕ) (n : ℕ) → length o ≡ n → length l ≡ n → take n o ≡ take n (offers_of l) → o ≡ offers_of l
  offers_all o n h g t = sym (take_all n o (omega arith)) ∙ t ∙ take_all n (offers_of l) (omega (arith, offers_length))
