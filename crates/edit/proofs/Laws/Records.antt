-- Laws of one record: what it states lies behind its link, and what is known of it when its link is set.
-- Assumes nothing.
use mathlib.Core.Path.{◌≡◌, refl, sym, ap, ap₂, ◌∙◌}
use mathlib.Core.Bool.{true, cond, not, ◌||◌}
use mathlib.Core.List.{List, [], ◌∷◌, ◌++◌}
use Prim.Native.Nat.{ℕ, zero, suc, ◌+◌, ◌*◌, ◌/◌, ◌%◌, ◌<◌}
use native.Mathlib.Decide.{ℕ_discrete}
use native.Mathlib.Omega.{arith}
use lib.ListN.{length, get_or, take, drop, replicate, length-drop}
use lib.Seq.{get_or-take, get_or-drop, drop-drop, length-take-le}
use lib.Dec.{eqb, ltb}
use borrow.Author.Tests.{eqb-true, eq-eqb, ne_eqb}
use Rattle.table.specs.Members.{each}
use Rattle.table.proofs.Tables.{miss, hit, and_both}
use Rattle.plan.specs.Records.{zeros, u16_at, record_at, record_count, first_in, next_in, domain_in}
use Rattle.plan.specs.Chain.{unlisted, link_of}
use Rattle.plan.proofs.Laws.Bytes.{two}
use Rattle.edit.specs.Laying.{relinked}

-- what a record states lies behind its link
module _ (b c : List ℕ) (e : drop 2 b ≡ drop 2 c) where
  byte_same : (k : ℕ) → get_or b (2 + k) 0 ≡ get_or c (2 + k) 0
  byte_same k = sym (get_or-drop 2 b k 0) ∙ ap (λ (l : List ℕ). get_or l k 0) e ∙ get_or-drop 2 c k 0

  two_same : (k : ℕ) → u16_at b (2 + k) ≡ u16_at c (2 + k)
  two_same k =
      let i : 2 + k + 1 ≡ 2 + (k + 1) = omega arith in
      ap₂ (λ (x y : ℕ). x + 256 * y) (byte_same k) (ap (λ (m : ℕ). get_or b m 0) i ∙ byte_same (k + 1) ∙ ap (λ (m : ℕ). get_or c m 0) (sym i))

  pub domain_same : domain_in b ≡ domain_in c
  domain_same = λ x. record {
    number = byte_same 0 x;
    reservation = two_same 2 x;
    reclaimcap = two_same 4 x;
    writebackcap = two_same 6 x;
    writebackreservation = two_same 8 x;
    marked = eqb (byte_same 1 x) 1;
  }

  pub unlisted_same : unlisted b ≡ unlisted c
  unfolding unlisted
  unlisted_same =
      ap₂ (λ (x : ℕ) (l : List ℕ). ltb 1 x || not (zeros (take 4 l))) (byte_same 1)
      (sym (drop-drop 10 2 b) ∙ ap (drop 10) e ∙ drop-drop 10 2 c)

-- a record of a file is sixteen bytes long
pub record_long : (s : List ℕ) (k : ℕ) → k < record_count s → length (record_at s k) ≡ 16
record_long s k h = length-take-le 16 (drop (16 * k) s) (simp length-drop (omega arith))

-- the link in the bytes of record k
unfoldable pub link_in : ℕ → List ℕ → ℕ
link_in k b = cond (eqb k 0) (first_in b) (next_in b)

pub link_in_lem : (s : List ℕ) (k : ℕ) → link_of s k ≡ link_in k (record_at s k)
unfolding link_of link_in
link_in_lem s zero = ap₂ (λ (x y : ℕ). x + 256 * y) (sym (get_or-take 16 s 2 0 (omega arith))) (sym (get_or-take 16 s 3 0 (omega arith)))
link_in_lem s (suc k) = sym (miss _ _ _ (ne_eqb (suc k) 0 (λ z. omega arith)))

-- a record whose link is set
module _ (k l : ℕ) (b : List ℕ) where
  pub relinked_first : k ≡ 0 → relinked k l b ≡ take 2 b ++ (l % 256 ∷ l / 256 % 256 ∷ drop 4 b)
  unfolding relinked
  relinked_first e = hit _ _ _ (eq-eqb k 0 e)

  pub relinked_other : (k ≡ 0 → ⊥) → relinked k l b ≡ l % 256 ∷ l / 256 % 256 ∷ drop 2 b
  unfolding relinked
  relinked_other n = miss _ _ _ (ne_eqb k 0 n)

  -- what a domain record states is kept, and so is the rest of record 0
  pub relinked_tail : (k ≡ 0 → ⊥) → drop 2 (relinked k l b) ≡ drop 2 b
  relinked_tail n = ap (drop 2) (relinked_other n)

  module _ (long : length b ≡ 16) where
    pub relinked_head : k ≡ 0 → (take 2 (relinked k l b) ≡ take 2 b) × (drop 4 (relinked k l b) ≡ drop 4 b)
    relinked_head e = let r = relinked_first e in let c = cut b long in (ap (take 2) r ∙ c.0, ap (drop 4) r ∙ c.1)
      where
        cut : (b : List ℕ) → length b ≡ 16
            → (take 2 (take 2 b ++ (l % 256 ∷ l / 256 % 256 ∷ drop 4 b)) ≡ take 2 b) × (drop 4 (take 2 b ++ (l % 256 ∷ l / 256 % 256 ∷ drop 4 b)) ≡ drop 4 b)
        cut [] h = absurd (omega arith)
        cut (x ∷ []) h = absurd (omega arith)
        cut (x ∷ y ∷ r) h = (refl, refl)

    pub relinked_long : length (relinked k l b) ≡ 16
    relinked_long = go (ℕ_discrete k 0)
      where
        size : (b : List ℕ) → length b ≡ 16 → length (take 2 b ++ (l % 256 ∷ l / 256 % 256 ∷ drop 4 b)) ≡ 16
        size [] h = absurd (omega arith)
        size (x ∷ []) h = absurd (omega arith)
        size (x ∷ y ∷ r) h = simp length-drop (omega arith)

        go : Dec (k ≡ 0) → length (relinked k l b) ≡ 16
        go (yes e) = ap length (relinked_first e) ∙ size b long
        go (no n) = ap length (relinked_other n) ∙ simp length-drop (omega arith)

    pub relinked_link : l < 65536 → link_in k (relinked k l b) ≡ l
    unfolding link_in
    relinked_link small = go (ℕ_discrete k 0)
      where
        there : (b : List ℕ) → length b ≡ 16 → first_in (take 2 b ++ (l % 256 ∷ l / 256 % 256 ∷ drop 4 b)) ≡ l
        there [] h = absurd (omega arith)
        there (x ∷ []) h = absurd (omega arith)
        there (x ∷ y ∷ r) h = two l small

        go : Dec (k ≡ 0) → cond (eqb k 0) (first_in (relinked k l b)) (next_in (relinked k l b)) ≡ l
        go (yes e) = hit _ _ _ (eq-eqb k 0 e) ∙ ap first_in (relinked_first e) ∙ there b long
        go (no n) = miss _ _ _ (ne_eqb k 0 n) ∙ ap next_in (relinked_other n) ∙ two l small

    -- a link that is 0 already
    pub relinked_none : l ≡ 0 → link_in k b ≡ 0 → relinked k l b ≡ b
    unfolding link_in
    relinked_none z e = go (ℕ_discrete k 0)
      where
        first : (b : List ℕ) → length b ≡ 16 → first_in b ≡ 0 → take 2 b ++ (l % 256 ∷ l / 256 % 256 ∷ drop 4 b) ≡ b
        first [] h n = absurd (omega arith)
        first (w ∷ []) h n = absurd (omega arith)
        first (w ∷ x ∷ []) h n = absurd (omega arith)
        first (w ∷ x ∷ y ∷ []) h n = absurd (omega arith)
        first (v ∷ w ∷ x ∷ y ∷ r) h n = ap₂ (λ (i j : ℕ). v ∷ w ∷ i ∷ j ∷ r) (omega arith) (omega arith)

        next : (b : List ℕ) → length b ≡ 16 → next_in b ≡ 0 → l % 256 ∷ l / 256 % 256 ∷ drop 2 b ≡ b
        next [] h n = absurd (omega arith)
        next (x ∷ []) h n = absurd (omega arith)
        next (x ∷ y ∷ r) h n = ap₂ (λ (i j : ℕ). i ∷ j ∷ r) (omega arith) (omega arith)

        go : Dec (k ≡ 0) → relinked k l b ≡ b
        go (yes q) = relinked_first q ∙ first b long (sym (hit _ _ _ (eq-eqb k 0 q)) ∙ e)
        go (no q) = relinked_other q ∙ next b long (sym (miss _ _ _ (ne_eqb k 0 q)) ∙ e)

-- bytes that are all zero
pub zeros_are : (b : List ℕ) → zeros b ≡ true → b ≡ replicate (length b) 0
unfolding each
zeros_are [] e = refl
zeros_are (x ∷ b) e =
    let h = and_both (eqb x 0) (zeros b) e in
    ap₂ (λ (y : ℕ) (l : List ℕ). y ∷ l) (eqb-true x 0 h.0) (zeros_are b h.1)
