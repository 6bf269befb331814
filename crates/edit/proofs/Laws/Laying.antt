-- Laws of a file laid anew record by record: its length, each of its records and links, and record 0.
-- Assumes nothing.
use mathlib.Core.Path.{◌≡◌, refl, sym, ap, ap₂, ◌∙◌}
use mathlib.Core.Bool.{not}
use mathlib.Core.List.{List, [], ◌∷◌, ◌++◌, append-nil}
use Prim.Native.Nat.{ℕ, zero, suc, ◌+◌, ◌*◌, ◌≤◌, ◌<◌}
use native.Mathlib.Nat.{zero-add}
use native.Mathlib.Decide.{ℕ_discrete}
use native.Mathlib.Omega.{arith}
use lib.ListN.{length, take, drop, take-append-drop, drop_of_length-le}
use lib.Seq.{get_or-take, drop-drop}
use borrow.Author.Tests.{eq-eqb, ne_eqb}
use Rattle.table.specs.Lines.{first_of}
use Rattle.table.proofs.Tables.{miss, hit}
use Rattle.plan.specs.Value.{no_period}
use Rattle.plan.specs.Records.{part, zeros, record_at, record_count, period_in}
use Rattle.plan.specs.Chain.{link_of}
use Rattle.plan.specs.Reading.{no_length, head_table}
use Rattle.plan.specs.Writing.{records_from}
use Rattle.plan.proofs.Laws.Heads.{Whole}
use Rattle.plan.proofs.Laws.Filing.{records_none, records_first, records_length, records_at, records_same}
use Rattle.edit.specs.Laying.{laid, relinked, with_link, rewritten}
use Rattle.edit.proofs.Laws.Records.{record_long, link_in, link_in_lem, relinked_tail, relinked_head, relinked_long, relinked_link, relinked_none}

-- a file of whole records is made of them
whole_from : (s : List ℕ) (m j : ℕ) → length s ≡ 16 * (j + m) → records_from (record_at s) j m ≡ drop (16 * j) s
whole_from s zero j e =
    let none : length s ≤ 16 * j = omega arith in
    records_none (record_at s) j ∙ sym (drop_of_length-le s none)
whole_from s (suc m) j e =
    let at : 16 * (j + 1) ≡ 16 * j + 16 = omega arith in
    records_first (record_at s) j m
    ∙ ap (λ (l : List ℕ). record_at s j ++ l) (whole_from s m (j + 1) (omega arith) ∙ ap (λ (n : ℕ). drop n s) at ∙ sym (drop-drop 16 (16 * j) s))
    ∙ take-append-drop 16 (drop (16 * j) s)

module _ (s : List ℕ) (whole : Whole (length s)) where
  pub count_is : length s ≡ 16 * record_count s
  count_is = omega (arith, whole.even)

  module _ (f : ℕ → List ℕ) where
    pub laid_agree : (g : ℕ → List ℕ) → ((k : ℕ) → k < record_count s → f k ≡ g k) → laid f s ≡ laid g s
    unfolding laid
    laid_agree g h = records_same f g 0 (record_count s) (λ k l. h k (omega arith))

    pub laid_same : ((k : ℕ) → k < record_count s → f k ≡ record_at s k) → laid f s ≡ s
    unfolding laid
    laid_same h = laid_agree (record_at s) h ∙ whole_from s (record_count s) 0 (omega (arith, count_is))

    module _ (sixteen : (k : ℕ) → k < record_count s → length (f k) ≡ 16) where
      sixteen' : (k : ℕ) → k < 0 + record_count s → length (f k) ≡ 16
      sixteen' k h = sixteen k (omega arith)

      pub laid_length : length (laid f s) ≡ length s
      unfolding laid
      laid_length = records_length f 0 (record_count s) sixteen' ∙ sym count_is

      pub laid_at : (k : ℕ) → k < record_count s → record_at (laid f s) k ≡ f k
      unfolding laid
      laid_at k h =
          ap (λ (l : List ℕ). record_at l k) (sym (append-nil (records_from f 0 (record_count s))))
          ∙ records_at f (record_count s) 0 k [] sixteen' h ∙ ap f (zero-add k)

-- record 0 in a file: its period, and its bytes 4 to 15
period_in_lem : (s : List ℕ) → period_in s ≡ period_in (take 2 (record_at s 0))
period_in_lem s =
    ap₂ (λ (x y : ℕ). x + 256 * y)
    (sym (get_or-take 2 (record_at s 0) 0 0 (omega arith) ∙ get_or-take 16 s 0 0 (omega arith)))
    (sym (get_or-take 2 (record_at s 0) 1 0 (omega arith) ∙ get_or-take 16 s 1 0 (omega arith)))

rest_in : (s : List ℕ) → part s 4 12 ≡ drop 4 (record_at s 0)
rest_in [] = refl
rest_in (a ∷ []) = refl
rest_in (a ∷ b ∷ []) = refl
rest_in (a ∷ b ∷ c ∷ []) = refl
rest_in (a ∷ b ∷ c ∷ d ∷ r) = refl

-- a file of the same length with the same record 0, but for its link
module _ (s t : List ℕ) (long : length t ≡ length s) (front : take 2 (record_at t 0) ≡ take 2 (record_at s 0)) (rest : drop 4 (record_at t 0) ≡ drop 4 (record_at s 0)) where
  pub period_same : period_in t ≡ period_in s
  period_same = period_in_lem t ∙ ap period_in front ∙ sym (period_in_lem s)

  pub head_same : first_of (head_table t) 0 ≡ first_of (head_table s) 0
  head_same =
      ap₂ (λ (n P : ℕ). first_of ((no_length n, 1) ∷ (no_period P, 2) ∷ (not (zeros (part t 4 12)), 3) ∷ []) 0) long period_same
      ∙ ap (λ (l : List ℕ). first_of ((no_length (length s), 1) ∷ (no_period (period_in s), 2) ∷ (not (zeros l), 3) ∷ []) 0) (rest_in t ∙ rest ∙ sym (rest_in s))

-- record k of a file in which the link of record q is set to l
module _ (s : List ℕ) (q l : ℕ) where
  module _ (k : ℕ) where
    pub with_same : (k ≡ q → ⊥) → with_link s q l k ≡ record_at s k
    unfolding with_link
    with_same n = miss _ _ _ (ne_eqb k q n)

    with_link_lem : k ≡ q → with_link s q l k ≡ relinked k l (record_at s k)
    unfolding with_link
    with_link_lem e = hit _ _ _ (eq-eqb k q e)

    pub with_tail : (k ≡ 0 → ⊥) → drop 2 (with_link s q l k) ≡ drop 2 (record_at s k)
    with_tail some = go (ℕ_discrete k q)
      where
        go : Dec (k ≡ q) → drop 2 (with_link s q l k) ≡ drop 2 (record_at s k)
        go (yes e) = ap (drop 2) (with_link_lem e) ∙ relinked_tail k l (record_at s k) some
        go (no n) = ap (drop 2) (with_same n)

    module _ (inside : k < record_count s) where
      pub with_long : length (with_link s q l k) ≡ 16
      with_long = go (ℕ_discrete k q)
        where
          go : Dec (k ≡ q) → length (with_link s q l k) ≡ 16
          go (yes e) = ap length (with_link_lem e) ∙ relinked_long k l (record_at s k) (record_long s k inside)
          go (no n) = ap length (with_same n) ∙ record_long s k inside

      pub with_head : k ≡ 0 → (take 2 (with_link s q l k) ≡ take 2 (record_at s k)) × (drop 4 (with_link s q l k) ≡ drop 4 (record_at s k))
      with_head z = go (ℕ_discrete k q)
        where
          go : Dec (k ≡ q) → (take 2 (with_link s q l k) ≡ take 2 (record_at s k)) × (drop 4 (with_link s q l k) ≡ drop 4 (record_at s k))
          go (yes e) =
              let h = relinked_head k l (record_at s k) (record_long s k inside) z in
              (ap (take 2) (with_link_lem e) ∙ h.0, ap (drop 4) (with_link_lem e) ∙ h.1)
          go (no n) = (ap (take 2) (with_same n), ap (drop 4) (with_same n))

      -- a link that is 0 already, and is set to 0
      pub with_none : l ≡ 0 → link_of s q ≡ 0 → with_link s q l k ≡ record_at s k
      with_none z end = go (ℕ_discrete k q)
        where
          go : Dec (k ≡ q) → with_link s q l k ≡ record_at s k
          go (yes e) = with_link_lem e ∙ relinked_none k l (record_at s k) (record_long s k inside) z (sym (link_in_lem s k) ∙ ap (link_of s) e ∙ end)
          go (no n) = with_same n

  -- and where record i is replaced beside
  module _ (i : ℕ) (b : List ℕ) (k : ℕ) where
    pub rewritten_at : k ≡ i → rewritten s q l i b k ≡ b
    unfolding rewritten
    rewritten_at e = hit _ _ _ (eq-eqb k i e)

    pub rewritten_other : (k ≡ i → ⊥) → rewritten s q l i b k ≡ with_link s q l k
    unfolding rewritten
    rewritten_other n = miss _ _ _ (ne_eqb k i n)

    pub rewritten_same : (k ≡ i → ⊥) → (k ≡ q → ⊥) → rewritten s q l i b k ≡ record_at s k
    rewritten_same n m = rewritten_other n ∙ with_same k m

    pub rewritten_long : length b ≡ 16 → k < record_count s → length (rewritten s q l i b k) ≡ 16
    rewritten_long long inside = go (ℕ_discrete k i)
      where
        go : Dec (k ≡ i) → length (rewritten s q l i b k) ≡ 16
        go (yes e) = ap length (rewritten_at e) ∙ long
        go (no n) = ap length (rewritten_other n) ∙ with_long k inside

  -- the links of any file that has this record
  module _ (t : List ℕ) (k : ℕ) (is : record_at t k ≡ with_link s q l k) where
    pub link_kept : (k ≡ q → ⊥) → link_of t k ≡ link_of s k
    link_kept n = link_in_lem t k ∙ ap (link_in k) (is ∙ with_same k n) ∙ sym (link_in_lem s k)

    pub link_set : k ≡ q → k < record_count s → l < 65536 → link_of t k ≡ l
    link_set e inside small =
        link_in_lem t k ∙ ap (link_in k) (is ∙ with_link_lem k e) ∙ relinked_link k l (record_at s k) (record_long s k inside) small
