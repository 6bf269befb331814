-- What `all`, `any` and `find` over the numbers below a bound, or over a list, tell: the tests of a range.
-- Assumes nothing.
use mathlib.Core.Path.{◌≡◌, sym, ap, ◌∙◌}
use mathlib.Core.Bool.{Bool, true, false}
use mathlib.Core.List.{List}
use Prim.Native.Nat.{ℕ, ◌≤◌, ◌<◌}
use native.Mathlib.Omega.{arith}
use lib.ListN.{length, get_or}
use borrow.Author.Tests.{lt-ltb, le-ltb}
use Rattle.std.specs.Prelude.{Option, None, Some, MatchBool, MatchOption, unwrap_or, IfSome, is_some}
use Rattle.std.specs.List.{AllWithin, HoldsAt, range_with_len}
use Rattle.std.proofs.lemmas.List.FromFn.{length-range_with_len, get_or-range_with_len}
use Rattle.table.specs.Sums.{nth}
use Rattle.table.specs.Ranges.{every_below, some_below, lowest}
use Rattle.table.proofs.Searches.{every_all, every_out, some_all, some_at, lowest_at, lowest_none, lowest_some}

-- the numbers below n, and number k of them
abbrev below : ℕ → List ℕ
below n = range_with_len 0 n

number_at : (n k : ℕ) → k < n → get_or (below n) k 0 ≡ k
number_at n k h = get_or-range_with_len 0 n k 0 h ∙ omega arith

module _ (f : ℕ → Bool) (n : ℕ) where
  holds : (b : Bool) → AllWithin (λ k. f k ≡ b) (below n) 0 (length (below n)) → (k : ℕ) → k < n → f k ≡ b
  holds b h k l = ap f (sym (number_at n k l)) ∙ h k 0 (omega arith) (omega (arith, length-range_with_len 0 n))

  found : (b : Bool) (k : ℕ) → k < length (below n) → HoldsAt (λ k. f k ≡ b) (below n) k → (k < n) × (f k ≡ b)
  found b k l h = let small : k < n = omega (arith, length-range_with_len 0 n) in (small, ap f (sym (number_at n k small)) ∙ h 0)

  pub every_told : (r : Bool)
      → MatchBool r (AllWithin (λ k. f k ≡ true) (below n) 0 (length (below n))) ((k : ℕ) × (k < length (below n)) × HoldsAt (λ k. f k ≡ false) (below n) k)
      → r ≡ every_below f n
  every_told true h = sym (every_all f n (holds true h))
  every_told false h = let at = found false h.0 h.1 h.2 in sym (every_out f n h.0 at.0 at.1)

  pub some_told : (r : Bool)
      → MatchBool r ((k : ℕ) × (k < length (below n)) × HoldsAt (λ k. f k ≡ true) (below n) k) (AllWithin (λ k. f k ≡ false) (below n) 0 (length (below n)))
      → r ≡ some_below f n
  some_told true h = let at = found true h.0 h.1 h.2 in sym (some_at f n h.0 at.0 at.1)
  some_told false h = sym (some_all f n (holds false h))

  pub lowest_told : (r : Option ℕ)
      → MatchOption r ((k : ℕ) → 0 ≤ k → k < n → f k ≡ false)
      (λ i. (0 ≤ i) × (i < n) × (f i ≡ true) × ((k : ℕ) → 0 ≤ k → k < i → f k ≡ false))
      → unwrap_or r n ≡ lowest f n
  lowest_told None h = sym (lowest_none f 0 n (λ i a b. h i a (omega arith)) ∙ omega arith)
  lowest_told (Some i) h = sym (lowest_at f 0 n i h.0 (omega (arith, h.1)) h.2 h.3)

  -- there is a lowest index just where the test holds of some
  pub lowest_there : (r : Option ℕ) → unwrap_or r n ≡ lowest f n → IfSome r (λ i. i < n) → is_some r ≡ some_below f n
  lowest_there None e h = sym (le-ltb n n (omega arith)) ∙ lowest_some f n n e
  lowest_there (Some i) e h = sym (lt-ltb i n h) ∙ lowest_some f n i e

-- a test of the elements of a list
pub some_told_of : (f : ℕ → Bool) (xs : List ℕ) (n : ℕ) → length xs ≡ n → (r : Bool)
    → MatchBool r ((k : ℕ) × (k < length xs) × HoldsAt (λ x. f x ≡ true) xs k) (AllWithin (λ x. f x ≡ false) xs 0 (length xs))
    → r ≡ some_below (λ k. f (nth xs k)) n
some_told_of f xs n e true h = sym (some_at (λ k. f (nth xs k)) n h.0 (omega (arith, e, h.1)) (h.2 0))
some_told_of f xs n e false h = sym (some_all (λ k. f (nth xs k)) n (λ k l. h k 0 (omega arith) (omega (arith, e))))

-- the first element of a list that passes a test
pub lowest_told_of : (f : ℕ → Bool) (xs : List ℕ) (n : ℕ) → length xs ≡ n → (r : Option ℕ)
    → MatchOption r (AllWithin (λ x. f x ≡ false) xs 0 (length xs))
    (λ i. (i < length xs) × HoldsAt (λ x. f x ≡ true) xs i × AllWithin (λ x. f x ≡ false) xs 0 i)
    → unwrap_or r n ≡ lowest (λ k. f (nth xs k)) n
lowest_told_of f xs n e None h = lowest_told (λ k. f (nth xs k)) n None (λ k a b. h k 0 a (omega (arith, e)))
lowest_told_of f xs n e (Some i) h =
    lowest_told (λ k. f (nth xs k)) n (Some i) (omega arith, omega (arith, e, h.0), h.1 0, λ k a b. h.2 k 0 a b)
