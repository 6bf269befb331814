-- Laws of bytes that are stored: a link in a record, and a file laid anew record by record.
-- Assumes nothing.
use mathlib.Core.Path.{◌≡◌, refl, sym, ap, ap₂, subst, ◌∙◌}
use mathlib.Core.Bool.{Bool, true, false, cond}
use mathlib.Core.List.{List, [], ◌∷◌, ◌++◌, append-nil}
use Prim.Native.Nat.{ℕ, zero, suc, ◌+◌, ◌-◌, ◌*◌, ◌/◌, ◌%◌, ◌≤◌, ◌<◌}
use native.Mathlib.Nat.{add-zero, zero-add}
use native.Mathlib.Numerals.{add-one}
use native.Mathlib.Omega.{arith}
use lib.ListN.{length, take, drop, set, drop_of_length-le}
use lib.Seq.{take-add, drop-drop}
use lib.Dec.{eqb}
use borrow.Author.Tests.{eqb-true, eq-eqb, ne_eqb}
use borrow.Rule.Slice.PartMut.{put_mid}
use Rattle.table.proofs.Tables.{miss, hit}
use Rattle.plan.specs.Records.{record_at, record_count}
use Rattle.plan.specs.Writing.{records_from}
use Rattle.plan.proofs.Laws.Heads.{Whole}
use Rattle.plan.proofs.Laws.Filing.{records_last, Filled, filled_none, filled_more, filled_all}
use Rattle.edit.specs.Laying.{laid, relinked, with_link, rewritten}
use Rattle.edit.proofs.Laws.Records.{relinked_first, relinked_other}
use Rattle.edit.proofs.Laws.Laying.{laid_agree, laid_length, laid_at, with_long}
use Rattle.edit.specs.Inner.{replaced}

-- the two bytes of a link
module _ (k l : ℕ) (b : List ℕ) (long : length b ≡ 16) where
  pub store_first : k ≡ 0 → set (set b 2 (l % 256)) 3 (l / 256 % 256) ≡ relinked k l b
  store_first e = stored b long ∙ sym (relinked_first k l b e)
    where
      stored : (b : List ℕ) → length b ≡ 16 → set (set b 2 (l % 256)) 3 (l / 256 % 256) ≡ take 2 b ++ (l % 256 ∷ l / 256 % 256 ∷ drop 4 b)
      stored [] h = absurd (omega arith)
      stored (w ∷ []) h = absurd (omega arith)
      stored (w ∷ x ∷ []) h = absurd (omega arith)
      stored (w ∷ x ∷ y ∷ []) h = absurd (omega arith)
      stored (w ∷ x ∷ y ∷ z ∷ r) h = refl

  pub store_other : (k ≡ 0 → ⊥) → set (set b 0 (l % 256)) 1 (l / 256 % 256) ≡ relinked k l b
  store_other n = stored b long ∙ sym (relinked_other k l b n)
    where
      stored : (b : List ℕ) → length b ≡ 16 → set (set b 0 (l % 256)) 1 (l / 256 % 256) ≡ l % 256 ∷ l / 256 % 256 ∷ drop 2 b
      stored [] h = absurd (omega arith)
      stored (w ∷ []) h = absurd (omega arith)
      stored (w ∷ x ∷ r) h = refl

-- all records are laid
pub laid_all : (f : ℕ → List ℕ) (s b : List ℕ) (k : ℕ) → Filled f s b k → k ≡ record_count s → Whole (length s) → b ≡ laid f s
unfolding laid
laid_all f s b k v e whole =
    let out : length s ≤ 16 * k = omega (arith, whole.even) in
    filled_all f s b k v ∙ ap (λ (r : List ℕ). records_from f 0 k ++ r) (drop_of_length-le s out) ∙ append-nil (records_from f 0 k)
    ∙ ap (records_from f 0) e

-- a record that is right already is passed by, and so are several
module _ (f : ℕ → List ℕ) (s b : List ℕ) where
  pub filled_keep : (k : ℕ) → Filled f s b k → record_at b k ≡ f k → Filled f s b (k + 1)
  filled_keep k v e =
      let at : 16 * (k + 1) ≡ 16 * k + 16 = omega arith in
      record {
        front =
            ap (λ (n : ℕ). take n b) at ∙ take-add (16 * k) 16 b ∙ ap₂ (λ (x y : List ℕ). x ++ y) v.front (e ∙ ap f (sym (zero-add k)))
            ∙ sym (ap (records_from f 0) (add-one k) ∙ records_last f 0 k);
        back =
            ap (λ (n : ℕ). drop n b) at ∙ sym (drop-drop 16 (16 * k) b) ∙ ap (drop 16) v.back ∙ drop-drop 16 (16 * k) s
            ∙ ap (λ (n : ℕ). drop n s) (sym at);
        same = v.same;
      }

  filled_keeps : (n k : ℕ) → Filled f s b k → ((i : ℕ) → k ≤ i → i < k + n → record_at b i ≡ f i) → Filled f s b (k + n)
  filled_keeps zero k v h = subst (Filled f s b) (sym (add-zero k)) v
  filled_keeps (suc n) k v h =
      let e : k + 1 + n ≡ k + suc n = omega arith in
      subst (Filled f s b) e (filled_keeps n (k + 1) (filled_keep k v (h k (omega arith) (omega arith))) (λ i a c. h i (omega arith) (omega arith)))

  -- the records behind are as they were
  pub filled_behind : (k : ℕ) → Filled f s b k → (i : ℕ) → k ≤ i → record_at b i ≡ record_at s i
  filled_behind k v i h =
      let e : 16 * i ≡ 16 * k + (16 * i - 16 * k) = omega arith in
      let d = 16 * i - 16 * k in
      ap (λ (n : ℕ). take 16 (drop n b)) e ∙ ap (take 16) (sym (drop-drop d (16 * k) b) ∙ ap (drop d) v.back ∙ drop-drop d (16 * k) s)
      ∙ ap (λ (n : ℕ). take 16 (drop n s)) (sym e)

-- one record's sixteen bytes lent and given back
pub put_laid : (s : List ℕ) (k : ℕ) (r : List ℕ) → Whole (length s) → k < record_count s → length r ≡ 16
    → put_mid (16 * k) (16 * k + 16 - 16 * k) s r ≡ laid (replaced s k r) s
unfolding replaced
put_laid s k r whole h long =
    let m = record_count s in
    let t = put_mid (16 * k) (16 * k + 16 - 16 * k) s r in
    let f = replaced s k r in
    let other : (i : ℕ) → (i ≡ k → ⊥) → record_at s i ≡ f i = λ i n. sym (miss _ _ _ (ne_eqb i k n)) in
    let low : Filled f s s k =
    subst (Filled f s s) (zero-add k) (filled_keeps f s s k 0 (filled_none f s) (λ i a c. other i (λ e. omega arith))) in
    let here : Filled f s t (k + 1) = filled_more f s s k low r (omega arith) long (sym (hit _ _ _ (eq-eqb k k refl))) in
    let all : k + 1 + (m - (k + 1)) ≡ m = omega arith in
    let rest : (i : ℕ) → k + 1 ≤ i → i < k + 1 + (m - (k + 1)) → record_at t i ≡ f i = λ i a c. filled_behind f s t (k + 1) here i a ∙ other i (λ e. omega arith) in
    laid_all f s t (k + 1 + (m - (k + 1))) (filled_keeps f s t (m - (k + 1)) (k + 1) here rest) all whole

-- a link that is set
pub link_laid : (s : List ℕ) (q l : ℕ) → Whole (length s) → laid (replaced s q (relinked q l (record_at s q))) s ≡ laid (with_link s q l) s
unfolding replaced with_link
link_laid s q l whole =
    laid_agree s whole (replaced s q (relinked q l (record_at s q))) (with_link s q l) (λ k h. go k (eqb k q) refl)
  where
    go : (k : ℕ) (b : Bool) → eqb k q ≡ b → cond b (relinked q l (record_at s q)) (record_at s k) ≡ cond b (relinked k l (record_at s k)) (record_at s k)
    go k true e = ap (λ (i : ℕ). relinked i l (record_at s i)) (sym (eqb-true k q e))
    go k false e = refl

-- a file is laid by its count of records alone
laid_count : (f : ℕ → List ℕ) (t s : List ℕ) → record_count t ≡ record_count s → laid f t ≡ laid f s
unfolding laid
laid_count f t s e = ap (records_from f 0) e

-- the writes of an edit: a link is set, and then the records that pass a test are replaced
module _ (s : List ℕ) (q l : ℕ) (whole : Whole (length s)) where
  sixteen : (j : ℕ) → j < record_count s → length (with_link s q l j) ≡ 16
  sixteen j h = with_long s q l j h

  pub linked_length : length (laid (with_link s q l) s) ≡ length s
  linked_length = laid_length s whole (with_link s q l) sixteen

  pub then_laid : (test : ℕ → Bool) (r : List ℕ)
      → (let t = laid (with_link s q l) s in laid (λ (j : ℕ). cond (test j) r (record_at t j)) t ≡ laid (λ (j : ℕ). cond (test j) r (with_link s q l j)) s)
  then_laid test r =
      let t = laid (with_link s q l) s in
      let f : ℕ → List ℕ = λ j. cond (test j) r (record_at t j) in
      laid_count f t s (ap (λ (n : ℕ). n / 16) linked_length)
      ∙ laid_agree s whole f (λ (j : ℕ). cond (test j) r (with_link s q l j)) (λ j h. ap (cond (test j) r) (laid_at s whole (with_link s q l) sixteen j h))

  pub rewrite_laid : (k : ℕ) (r : List ℕ) → (let t = laid (with_link s q l) s in laid (replaced t k r) t ≡ laid (rewritten s q l k r) s)
  unfolding replaced rewritten
  rewrite_laid k r = then_laid (λ (j : ℕ). eqb j k) r
