-- Laws of lists of numbers: their members, the last of them, the place of one, and lists in which no number stands twice.
-- Assumes nothing.
use mathlib.Core.Path.{◌≡◌, refl, sym, ap, ap₂, subst, ◌∙◌}
use mathlib.Core.Bool.{Bool, true, false, cond, ◌||◌, or-true, or_assoc, false≢true}
use mathlib.Core.List.{List, [], ◌∷◌, ◌++◌, map}
use mathlib.Core.Logic.{◌⊎◌, inl, inr, ⊎_elim}
use Prim.Native.Nat.{ℕ, zero, suc, ◌+◌, ◌≤◌, ◌<◌}
use native.Mathlib.Omega.{arith}
use lib.ListN.{length, get_or, take, drop, set, length-set}
use lib.Seq.{get_or-set_other}
use lib.Dec.{eqb, ltb}
use borrow.Author.Tests.{eqb-true, eqb-false, eq-eqb, ne_eqb, lt-ltb, le-ltb}
use Rattle.table.specs.Sums.{nth, sum}
use Rattle.table.specs.Members.{has, last_of, place_in, without}
use Rattle.table.proofs.Tables.{miss, hit, neither, or_both}
use Rattle.table.proofs.Flags.{has_none, unset, unset_set}

-- a member is the first or one of the others
module _ (n x : ℕ) (xs : List ℕ) where
  pub has_first : n ≡ x → has n (x ∷ xs) ≡ true
  unfolding has
  has_first e = ap (λ (b : Bool). b || has n xs) (eq-eqb n x e)

  pub has_later : has n xs ≡ true → has n (x ∷ xs) ≡ true
  unfolding has
  has_later e = ap (λ (b : Bool). eqb n x || b) e ∙ or-true (eqb n x)

  pub has_not : has n (x ∷ xs) ≡ false → (n ≡ x → ⊥) × (has n xs ≡ false)
  unfolding has
  has_not e = let b = or_both (eqb n x) (has n xs) e in (eqb-false n x b.0, b.1)

  pub has_other : (n ≡ x → ⊥) → has n (x ∷ xs) ≡ has n xs
  unfolding has
  has_other ne = ap (λ (b : Bool). b || has n xs) (ne_eqb n x ne)

  pub not_has : (n ≡ x → ⊥) → has n xs ≡ false → has n (x ∷ xs) ≡ false
  not_has ne e = has_other ne ∙ e

  pub has_either : has n (x ∷ xs) ≡ true → (n ≡ x) ⊎ (has n xs ≡ true)
  unfolding has
  has_either e = go (eqb n x) refl e
    where
      go : (b : Bool) → eqb n x ≡ b → (b || has n xs) ≡ true → (n ≡ x) ⊎ (has n xs ≡ true)
      go true q h = inl (eqb-true n x q)
      go false q h = inr h

-- no number is in the empty list
pub has_nothing : {C : Type 0} (n : ℕ) → has n [] ≡ true → C
has_nothing n e = absurd (false≢true (sym (has_none n) ∙ e))

-- a member and a number that is none are not the same
pub differ : (x y : ℕ) (xs : List ℕ) → has x xs ≡ true → has y xs ≡ false → x ≡ y → ⊥
differ x y xs a b e = false≢true (sym b ∙ ap (λ (n : ℕ). has n xs) (sym e) ∙ a)

-- members of two lists, one after the other
pub has_append : (n : ℕ) (xs ys : List ℕ) → has n (xs ++ ys) ≡ (has n xs || has n ys)
unfolding has
has_append n [] ys = refl
has_append n (x ∷ xs) ys = ap (λ (b : Bool). eqb n x || b) (has_append n xs ys) ∙ sym (or_assoc (eqb n x) (has n xs) (has n ys))

module _ (n : ℕ) (xs ys : List ℕ) where
  pub has_left : has n xs ≡ true → has n (xs ++ ys) ≡ true
  has_left e = has_append n xs ys ∙ ap (λ (b : Bool). b || has n ys) e

  pub has_right : has n ys ≡ true → has n (xs ++ ys) ≡ true
  has_right e = has_append n xs ys ∙ ap (λ (b : Bool). has n xs || b) e ∙ or-true (has n xs)

  pub has_neither : has n (xs ++ ys) ≡ false → (has n xs ≡ false) × (has n ys ≡ false)
  has_neither e = or_both (has n xs) (has n ys) (sym (has_append n xs ys) ∙ e)

  pub neither_has : has n xs ≡ false → has n ys ≡ false → has n (xs ++ ys) ≡ false
  neither_has a b = has_append n xs ys ∙ neither a b

  pub has_side : has n (xs ++ ys) ≡ true → (has n xs ≡ true) ⊎ (has n ys ≡ true)
  has_side e = go (has n xs) refl (sym (has_append n xs ys) ∙ e)
    where
      go : (b : Bool) → has n xs ≡ b → (b || has n ys) ≡ true → (has n xs ≡ true) ⊎ (has n ys ≡ true)
      go true q h = inl q
      go false q h = inr h

-- each element is a member
pub has_at : (xs : List ℕ) (k : ℕ) → k < length xs → has (nth xs k) xs ≡ true
has_at [] k h = absurd (omega arith)
has_at (x ∷ xs) zero h = has_first x x xs refl
has_at (x ∷ xs) (suc k) h = has_later (nth xs k) x xs (has_at xs k (omega arith))

-- the last of a list that starts with x is a member, and so stands at an index
pub last_in : (xs : List ℕ) (x : ℕ) → has (last_of x xs) (x ∷ xs) ≡ true
unfolding last_of
last_in [] x = has_first x x [] refl
last_in (y ∷ ys) x = has_later (last_of y ys) x (y ∷ ys) (last_in ys y)

pub last_take : (xs : List ℕ) (x k : ℕ) → k ≤ length xs → last_of x (take k xs) ≡ nth (x ∷ xs) k
unfolding last_of
last_take xs x zero h = refl
last_take [] x (suc k) h = absurd (omega arith)
last_take (y ∷ ys) x (suc k) h = last_take ys y k (omega arith)

-- a list parted at an index
pub parted_at : (xs : List ℕ) (k : ℕ) → k < length xs → xs ≡ take k xs ++ (nth xs k ∷ drop (suc k) xs)
parted_at [] k h = absurd (omega arith)
parted_at (x ∷ xs) zero h = refl
parted_at (x ∷ xs) (suc k) h = ap (λ (l : List ℕ). x ∷ l) (parted_at xs k (omega arith))

-- two rules that agree on the members of a list
pub map_same : {A : Type 0} (f g : ℕ → A) (xs : List ℕ) → ((j : ℕ) → has j xs ≡ true → f j ≡ g j) → map f xs ≡ map g xs
map_same f g [] h = refl
map_same {A} f g (x ∷ xs) h =
    ap₂ (λ (y : A) (l : List A). y ∷ l) (h x (has_first x x xs refl)) (map_same f g xs (λ j e. h j (has_later j x xs e)))

-- a number that the rule gives of no member
pub has_no_image : (x : ℕ) (f : ℕ → ℕ) (xs : List ℕ) → ((j : ℕ) → has j xs ≡ true → x ≡ f j → ⊥) → has x (map f xs) ≡ false
has_no_image x f [] h = has_none x
has_no_image x f (y ∷ ys) h = not_has x (f y) (map f ys) (h y (has_first y y ys refl)) (has_no_image x f ys (λ j e. h j (has_later j y ys e)))

-- what a rule gives of the first k elements
pub map_take : {A : Type 0} (f : ℕ → A) (k : ℕ) (xs : List ℕ) → map f (take k xs) ≡ take k (map f xs)
map_take f zero xs = refl
map_take f (suc k) [] = refl
map_take {A} f (suc k) (x ∷ xs) = ap (λ (l : List A). f x ∷ l) (map_take f k xs)

-- element k of what a rule gives
pub map_at : (f : ℕ → ℕ) (xs : List ℕ) (k : ℕ) → k < length xs → nth (map f xs) k ≡ f (nth xs k)
map_at f [] k h = absurd (omega arith)
map_at f (x ∷ xs) zero h = refl
map_at f (x ∷ xs) (suc k) h = map_at f xs k (omega arith)

-- the place of a number: of a member it is an index at which it stands, and of no other number is it one
pub place_at : (n : ℕ) (xs : List ℕ) → has n xs ≡ true → (place_in n xs < length xs) × (nth xs (place_in n xs) ≡ n)
unfolding has place_in
place_at n [] e = absurd (false≢true e)
place_at n (x ∷ xs) e = go (eqb n x) refl e (place_at n xs)
  where
    go : (b : Bool) → eqb n x ≡ b → (b || has n xs) ≡ true → (has n xs ≡ true → (place_in n xs < length xs) × (nth xs (place_in n xs) ≡ n))
        → (cond b 0 (suc (place_in n xs)) < suc (length xs)) × (nth (x ∷ xs) (cond b 0 (suc (place_in n xs))) ≡ n)
    go true q h ih = (omega arith, sym (eqb-true n x q))
    go false q h ih = let r = ih h in (omega (arith, r.0), r.1)

place_out : (n : ℕ) (xs : List ℕ) → has n xs ≡ false → place_in n xs ≡ length xs
unfolding place_in
place_out n [] e = refl
place_out n (x ∷ xs) e = let b = has_not n x xs e in miss _ _ _ (ne_eqb n x b.0) ∙ ap suc (place_out n xs b.1)

pub place_some : (n : ℕ) (xs : List ℕ) → ltb (place_in n xs) (length xs) ≡ has n xs
place_some n xs = go (has n xs) refl
  where
    go : (b : Bool) → has n xs ≡ b → ltb (place_in n xs) (length xs) ≡ b
    go true e = lt-ltb (place_in n xs) (length xs) (place_at n xs e).0
    go false e = le-ltb (place_in n xs) (length xs) (omega (arith, place_out n xs e))

-- the search from the front: the number is none of the first k, and stands at k or is in none of the list
pub place_here : (n : ℕ) (xs : List ℕ) (k : ℕ) → ((i : ℕ) → i < k → nth xs i ≡ n → ⊥) → k < length xs → nth xs k ≡ n → k ≡ place_in n xs
unfolding place_in
place_here n [] k none h e = absurd (omega arith)
place_here n (x ∷ xs) zero none h e = sym (hit _ _ _ (eq-eqb n x (sym e)))
place_here n (x ∷ xs) (suc k) none h e =
    ap suc (place_here n xs k (λ i l. none (suc i) (omega arith)) (omega arith) e) ∙ sym (miss _ _ _ (ne_eqb n x (λ q. none 0 (omega arith) (sym q))))

pub place_none : (n : ℕ) (xs : List ℕ) → ((i : ℕ) → i < length xs → nth xs i ≡ n → ⊥) → length xs ≡ place_in n xs
unfolding place_in
place_none n [] none = refl
place_none n (x ∷ xs) none =
    ap suc (place_none n xs (λ i l. none (suc i) (omega arith))) ∙ sym (miss _ _ _ (ne_eqb n x (λ q. none 0 (omega arith) (sym q))))

-- No number stands in a list twice.
abbrev pub Apart : List ℕ → Type 0
Apart [] = Unit {0}
Apart (x ∷ xs) = (has x xs ≡ false) × Apart xs

-- an element is in neither part beside it, and the two parts are the list without it
pub apart_mid : (xs : List ℕ) (y : ℕ) (ys : List ℕ) → Apart (xs ++ (y ∷ ys)) → (has y xs ≡ false) × (has y ys ≡ false)
apart_mid [] y ys a = (has_none y, a.0)
apart_mid (x ∷ xs) y ys a =
    let m = apart_mid xs y ys a.1 in
    let b = has_neither x xs (y ∷ ys) a.0 in
    (not_has y x xs (λ e. (has_not x y ys b.1).0 (sym e)) m.0, m.1)

pub apart_less : (xs : List ℕ) (y : ℕ) (ys : List ℕ) → Apart (xs ++ (y ∷ ys)) → Apart (xs ++ ys)
apart_less [] y ys a = a.1
apart_less (x ∷ xs) y ys a =
    let b = has_neither x xs (y ∷ ys) a.0 in
    (neither_has x xs ys b.0 (has_not x y ys b.1).1, apart_less xs y ys a.1)

without_none : (n : ℕ) (xs : List ℕ) → has n xs ≡ false → without n xs ≡ xs
unfolding without
without_none n [] e = refl
without_none n (x ∷ xs) e =
    let b = has_not n x xs e in
    miss _ _ _ (ne_eqb n x b.0) ∙ ap (λ (l : List ℕ). x ∷ l) (without_none n xs b.1)

pub without_mid : (xs : List ℕ) (y : ℕ) (ys : List ℕ) → Apart (xs ++ (y ∷ ys)) → without y (xs ++ (y ∷ ys)) ≡ xs ++ ys
unfolding without
without_mid [] y ys a = hit _ _ _ (eq-eqb y y refl) ∙ without_none y ys a.0
without_mid (x ∷ xs) y ys a =
    let ne = (has_not x y ys (has_neither x xs (y ∷ ys) a.0).1).0 in
    miss _ _ _ (ne_eqb y x (λ e. ne (sym e))) ∙ ap (λ (l : List ℕ). x ∷ l) (without_mid xs y ys a.1)

-- the two parts of such a list have no number in common
pub apart_sides : (n : ℕ) (xs ys : List ℕ) → Apart (xs ++ ys) → has n xs ≡ true → has n ys ≡ false
apart_sides n [] ys a h = has_nothing n h
apart_sides n (x ∷ xs) ys a h =
    ⊎_elim (λ (e : n ≡ x). ap (λ (m : ℕ). has m ys) e ∙ (has_neither x xs ys a.0).1) (λ (e : has n xs ≡ true). apart_sides n xs ys a.1 e) (has_either n x xs h)

pub apart_front : (xs ys : List ℕ) → Apart (xs ++ ys) → Apart xs
apart_front [] ys a = tt
apart_front (x ∷ xs) ys a = ((has_neither x xs ys a.0).0, apart_front xs ys a.1)

pub apart_more : (xs : List ℕ) (y : ℕ) → Apart xs → has y xs ≡ false → Apart (xs ++ (y ∷ []))
apart_more [] y a e = (has_none y, tt)
apart_more (x ∷ xs) y a e =
    let b = has_not y x xs e in
    (neither_has x xs (y ∷ []) a.0 (not_has x y [] (λ q. b.0 (sym q)) (has_none x)), apart_more xs y a.1 b.1)

-- Where no member has its flag set, the flags that are not set are at least as many as the members.
pub apart_few : (xs : List ℕ) (l : List Bool) → Apart xs → ((j : ℕ) → has j xs ≡ true → (j < length l) × (get_or l j false ≡ false)) → length xs ≤ unset l
apart_few [] l a h = omega arith
apart_few (x ∷ xs) l a h =
    let here = h x (has_first x x xs refl) in
    let more : (j : ℕ) → has j xs ≡ true → (j < length (set l x true)) × (get_or (set l x true) j false ≡ false) =
    λ j e. (subst (λ (n : ℕ). j < n) (sym (length-set l x true)) (h j (has_later j x xs e)).0, get_or-set_other l x j true false (differ j x xs e a.0) ∙ (h j (has_later j x xs e)).1) in
    omega (arith, unset_set l x here.0 here.1, apart_few xs (set l x true) a.1 more)

-- the sum of two lists, one after the other
pub sum_append : (xs ys : List ℕ) → sum (xs ++ ys) ≡ sum xs + sum ys
unfolding sum
sum_append [] ys = omega arith
sum_append (x ∷ xs) ys = omega (arith, sum_append xs ys)
