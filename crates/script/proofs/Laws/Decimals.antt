-- Numbers in decimal: their digits are those that the library io writes, and how many there are at most.
-- Assumes nothing.
use mathlib.Core.Path.{◌≡◌, refl, sym, ap, ap₂, ◌∙◌}
use mathlib.Core.Bool.{Bool, true, false, cond}
use mathlib.Core.List.{List, [], ◌∷◌, ◌++◌}
use Prim.Native.Nat.{ℕ, zero, suc, ◌+◌, ◌-◌, ◌/◌, ◌%◌, ◌^◌, ◌≤◌, ◌<◌}
use native.Mathlib.Nat.{mod-eq_of_lt, one-le-pow}
use native.Mathlib.Omega.{arith}
use lib.Dec.{ltb}
use lib.ListN.{length, length-append}
use borrow.Author.Tests.{lt-ltb, le-ltb}
use Rattle.io.specs.Digits.{last_digits, IsDigitCount, hex_digit_ascii}
use Rattle.table.proofs.Tables.{miss, hit}
use Rattle.script.specs.Text.{digits_of, decimal}

-- the digit of a number below 10
glyph_is : (d : ℕ) → d < 10 → 48 + d ≡ hex_digit_ascii d
glyph_is d h = sym (hit (ltb d 10) (48 + d) (87 + d) (lt-ltb d 10 h))

-- one digit, or more than one
one_digit : (most n : ℕ) → n < 10 → digits_of most n ≡ (48 + n) ∷ []
unfolding digits_of
one_digit zero n h = refl
one_digit (suc most) n h = hit (ltb n 10) _ _ (lt-ltb n 10 h)

more_digits : (most n : ℕ) → 10 ≤ n → digits_of (suc most) n ≡ digits_of most (n / 10) ++ ((48 + n % 10) ∷ [])
unfolding digits_of
more_digits most n h = miss (ltb n 10) _ _ (le-ltb n 10 h)

-- a number of two digits or more, and the fewest digits of what stands before its last one
fewest_low : (n k : ℕ) → IsDigitCount 10 1 n (suc (suc k)) → 10 ^ suc k ≤ n
fewest_low n k f = let e : suc (suc k) - 1 ≡ suc k = omega arith in rw e at (f.2 (omega arith))

fewest_ten : (n k : ℕ) → IsDigitCount 10 1 n (suc (suc k)) → 10 ≤ n
fewest_ten n k f = omega (arith, fewest_low n k f, one-le-pow k 10 (omega arith))

fewest_less : (n k : ℕ) → IsDigitCount 10 1 n (suc (suc k)) → IsDigitCount 10 1 (n / 10) (suc k)
fewest_less n k f =
    let e : suc k - 1 ≡ k = omega arith in
    (omega arith, omega arith, λ h. rw e (omega (arith, fewest_low n k f)))

digits_are : (k most n : ℕ) → n ≤ most → IsDigitCount 10 1 n (suc k) → digits_of most n ≡ last_digits 10 (suc k) n
digits_are zero most n h f =
    let small : n < 10 = f.1 in
    one_digit most n small ∙ ap (λ (d : ℕ). d ∷ []) (glyph_is n small ∙ ap hex_digit_ascii (sym (mod-eq_of_lt small)))
digits_are (suc k) zero n h f = let ten = fewest_ten n k f in absurd (omega arith)
digits_are (suc k) (suc most) n h f =
    let ten = fewest_ten n k f in
    more_digits most n ten
    ∙ ap₂ (λ (l : List ℕ) (d : ℕ). l ++ (d ∷ [])) (digits_are k most (n / 10) (omega arith) (fewest_less n k f)) (glyph_is (n % 10) (omega arith))

pub decimal_is : (n k : ℕ) → IsDigitCount 10 1 n k → decimal n ≡ last_digits 10 k n
unfolding decimal
decimal_is n zero f = absurd (omega arith)
decimal_is n (suc k) f = digits_are k n n (omega arith) f

pub decimal_small : (n : ℕ) → n < 10 → decimal n ≡ (48 + n) ∷ []
unfolding decimal
decimal_small n h = one_digit n n h

-- the longer of two texts bounds the one that a test picks
pub either_long : (b : Bool) (x y : List ℕ) (most : ℕ) → length x ≤ most → length y ≤ most → length (cond b x y) ≤ most
either_long true x y most h l = h
either_long false x y most h l = l

-- a number has no more digits than the power of ten above it
digits_long : (k most n : ℕ) → n < 10 ^ suc k → length (digits_of most n) ≤ suc k
unfolding digits_of
digits_long zero most n h = rw (one_digit most n h) (omega arith)
digits_long (suc k) zero n h = omega arith
digits_long (suc k) (suc most) n h =
    either_long (ltb n 10) _ _ (suc (suc k)) (omega arith)
    (omega (arith, length-append (digits_of most (n / 10)) ((48 + n % 10) ∷ []), digits_long k most (n / 10) (omega arith)))

pub decimal_long : (n k : ℕ) → 1 ≤ k → n < 10 ^ k → length (decimal n) ≤ k
unfolding decimal
decimal_long n zero h l = absurd (omega arith)
decimal_long n (suc k) h l = digits_long k n n l

-- numbers of 8, 16, 32 and 64 bits
pub long8 : (n : ℕ) → n < 256 → length (decimal n) ≤ 3
long8 n h = decimal_long n 3 (omega arith) (omega arith)

pub long16 : (n : ℕ) → n < 65536 → length (decimal n) ≤ 5
long16 n h = decimal_long n 5 (omega arith) (omega arith)

pub long32 : (n : ℕ) → n < 4294967296 → length (decimal n) ≤ 10
long32 n h = decimal_long n 10 (omega arith) (omega arith)

pub long64 : (n : ℕ) → n < 18446744073709551616 → length (decimal n) ≤ 20
long64 n h = decimal_long n 20 (omega arith) (omega arith)
