-- Laws of the masks: one that is filled number by number, and those of the numbers that wait and that pass, bit by bit.
-- Assumes nothing.
use mathlib.Core.Path.{◌≡◌, refl, sym, ap, ap₂, ◌∙◌}
use mathlib.Core.Bool.{Bool, true, false, not, ◌&&◌, ◌||◌, or-false, or-true}
use mathlib.Core.List.{List}
use Prim.Native.Nat.{ℕ, zero, suc, ◌+◌, ◌<◌, ◌≤◌}
use native.Mathlib.Omega.{arith}
use native.Mathlib.Decide.{ℕ_discrete, dec_lt}
use lib.Dec.{ltb, eqb}
use lib.ListN.{length, replicate, get_or-eq_default}
use lib.Bits.{bit_and, bit_or, or_lt, and_le_l}
use borrow.Author.Tests.{eq-eqb, ne_eqb, lt-ltb}
use Rattle.table.specs.Sums.{nth}
use Rattle.bits.specs.Bits.{bit}
use Rattle.bits.proofs.Laws.{bit_and_lem, bit_or_lem, bit_pow, bit_zero}
use Rattle.engine.specs.Inner.{Marks, Marked, wait_at, free_at, pass_at}

-- ---- a mask that is filled

-- bit n of a mask is set where `on`; the others stay
abbrev pub WithBit : (m n : ℕ) (on : Bool) → ℕ → Type 0
WithBit m n on r = (k : ℕ) → bit r k ≡ (bit m k || (eqb k n && on))

-- The first i numbers from `first` on are in the mask where the test says so, and no other is.
pub record Filled (m first : ℕ) (test : ℕ → Bool) (i : ℕ) : Type 0 where
  pub ahead : (n : ℕ) → n < first → bit m n ≡ false
  pub below : (k : ℕ) → k < i → bit m (k + first) ≡ test k
  pub beyond : (k : ℕ) → i ≤ k → bit m (k + first) ≡ false

module _ (first : ℕ) (test : ℕ → Bool) where
  pub filled_none : Filled 0 first test 0
  filled_none = record { ahead = λ n h. bit_zero n; below = λ k h. absurd (omega arith); beyond = λ k h. bit_zero (k + first) }

  pub filled_more : (m r i n : ℕ) (on : Bool) → n ≡ i + first → on ≡ test i → Filled m first test i → WithBit m n on r → Filled r first test (i + 1)
  filled_more m r i n on q e f new =
      record {
        ahead = λ k h. same k (λ z. omega arith) ∙ f.ahead k h;
        below = λ k h. go k h (ℕ_discrete k i);
        beyond = λ k h. same (k + first) (λ z. omega arith) ∙ f.beyond k (omega arith);
      }
    where
      same : (k : ℕ) → (k ≡ n → ⊥) → bit r k ≡ bit m k
      same k z = new k ∙ ap (λ (b : Bool). bit m k || (b && on)) (ne_eqb k n z) ∙ or-false (bit m k)

      go : (k : ℕ) → k < i + 1 → Dec (k ≡ i) → bit r (k + first) ≡ test k
      go k h (yes z) =
          new (k + first)
          ∙ ap₂ (λ (a b : Bool). a || (b && on)) (f.beyond k (omega arith)) (eq-eqb (k + first) n (omega arith))
          ∙ e ∙ ap test (sym z)
      go k h (no z) = same (k + first) (λ y. z (omega arith)) ∙ f.below k (omega arith)

  -- all sixteen or seventeen, where the test fails of all further ones
  pub filled_all : (m i last : ℕ) → i ≡ last → ((k : ℕ) → last ≤ k → test k ≡ false) → Filled m first test i → (k : ℕ) → bit m (k + first) ≡ test k
  filled_all m i last e out f k = go (dec_lt k last)
    where
      go : Dec (k < last) → bit m (k + first) ≡ test k
      go (yes h) = f.below k (omega arith)
      go (no h) = f.beyond k (omega arith) ∙ sym (out k (omega arith))

-- past the end of a list of sixteen there is no domain, and past the end of seventeen offers no offer
pub unlike_out : (a b : List ℕ) → length a ≡ 16 → length b ≡ 16 → (k : ℕ) → 16 ≤ k → not (eqb (nth a k) (nth b k)) ≡ false
unlike_out a b e g k h =
    ap not (eq-eqb (nth a k) (nth b k) (get_or-eq_default a 0 {n = k} (omega arith) ∙ sym (get_or-eq_default b 0 {n = k} (omega arith))))

pub offer_out : (o : List ℕ) (kind : ℕ) → length o ≡ 17 → 0 < kind → (k : ℕ) → 17 ≤ k → eqb (nth o k) kind ≡ false
offer_out o kind e h k l = ne_eqb (nth o k) kind (λ z. omega (arith, get_or-eq_default o 0 {n = k} (omega arith)))

-- a list differs from zeros where it is above 0
above_zero : (x : ℕ) → not (eqb x 0) ≡ ltb 0 x
above_zero zero = refl
above_zero (suc x) = ap not (ne_eqb (suc x) 0 (λ z. omega arith)) ∙ sym (lt-ltb 0 (suc x) (omega arith))

zeros_at : (n k : ℕ) → nth (replicate n 0) k ≡ 0
zeros_at zero k = refl
zeros_at (suc n) zero = refl
zeros_at (suc n) (suc k) = zeros_at n k

above_none : (l : List ℕ) (k : ℕ) → not (eqb (nth l k) (nth (replicate 16 0) k)) ≡ ltb 0 (nth l k)
above_none l k = ap (λ (x : ℕ). not (eqb (nth l k) x)) (zeros_at 16 k) ∙ above_zero (nth l k)

-- ---- the numbers that wait on claim, and those that pass

pub wait_bits : (a w h b n : ℕ) → bit (bit_or (bit_and a h) (bit_and w b)) n ≡ wait_at (bit a n) (bit w n) (bit h n) (bit b n)
wait_bits a w h b n = bit_or_lem (bit_and a h) (bit_and w b) n ∙ ap₂ ◌||◌ (bit_and_lem a h n) (bit_and_lem w b n)

module _ (x a w m r n : ℕ) where
  -- where the slot is blocked; where there is stock; where there is none
  pub blocked_bits : bit x n ≡ pass_at (bit x n) (free_at (eqb n 0) (bit a n) (bit w n) (bit m n) (bit r n) true) true
  blocked_bits = sym (or-false (bit x n))

  pub stock_bits : bit (bit_or x (bit_or (bit_and a (bit_or m 1)) (bit_and w r))) n
      ≡ pass_at (bit x n) (free_at (eqb n 0) (bit a n) (bit w n) (bit m n) (bit r n) true) false
  stock_bits = simp (bit_and_lem, bit_or_lem, bit_pow 0) (go (bit x n) (bit a n) (bit w n) (bit m n) (bit r n) (eqb n 0))
    where
      go : (x a w m r f : Bool) → (x || ((a && (m || f)) || (w && r))) ≡ (x || ((a && (f || (m && true))) || (w && r)))
      go true a w m r f = refl
      go false false w m r f = refl
      go false true w true r true = refl
      go false true w true r false = refl
      go false true w false r true = refl
      go false true w false r false = refl

  pub dry_bits : bit (bit_or x (bit_or (bit_and a 1) (bit_and w r))) n
      ≡ pass_at (bit x n) (free_at (eqb n 0) (bit a n) (bit w n) (bit m n) (bit r n) false) false
  dry_bits = simp (bit_and_lem, bit_or_lem, bit_pow 0) (go (bit x n) (bit a n) (bit w n) (bit m n) (bit r n) (eqb n 0))
    where
      go : (x a w m r f : Bool) → (x || ((a && f) || (w && r))) ≡ (x || ((a && (f || (m && false))) || (w && r)))
      go true a w m r f = refl
      go false false w m r f = refl
      go false true w m r true = refl
      go false true w true r false = refl
      go false true w false r false = refl

-- no bit from 17 on
pub wait_fits : (a w h b : ℕ) → a < 131072 → w < 131072 → bit_or (bit_and a h) (bit_and w b) < 131072
wait_fits a w h b x y = or_lt 17 (bit_and a h) (bit_and w b) (omega (arith, and_le_l a h)) (omega (arith, and_le_l w b))

pub pass_fits : (x a w m r : ℕ) → x < 131072 → a < 131072 → w < 131072 → bit_or x (bit_or (bit_and a m) (bit_and w r)) < 131072
pass_fits x a w m r h i j = or_lt 17 x (bit_or (bit_and a m) (bit_and w r)) h (wait_fits a w m r i j)
