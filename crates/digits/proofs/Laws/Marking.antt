-- Laws of digits read as two masks: one digit, a bit and twice eight bits side by side, and all seventeen.
-- Assumes nothing.
use mathlib.Core.Path.{◌≡◌, refl, sym, ap, ap₂, subst, ◌∙◌}
use mathlib.Core.Bool.{Bool, false, ◌&&◌, and-true, false≢true}
use mathlib.Core.List.{List}
use Prim.Native.Nat.{ℕ, zero, suc, ◌+◌, ◌-◌, ◌*◌, ◌/◌, ◌<◌, ◌≤◌}
use native.Mathlib.Nat.{mod-eq_of_lt}
use native.Mathlib.Decide.{dec_lt}
use native.Mathlib.Omega.{arith}
use lib.ListN.{get_or}
use lib.Bits.{bit_and, bit_or, bit_xor, and_high, and_le_l, and_le_r, and_lt, or_lt, or_add_and, xor_lt, xor_add_and}
use Rattle.bits.specs.Bits.{bit}
use Rattle.bits.proofs.Laws.{bit_and_lem, bit_zero, bit_pow, bit_shr, bit_above, join_low, join_high}
use Rattle.digits.specs.Lanes.{Lanes, Folded, Gathered, Laid, Digit, Offered, from}
use Rattle.digits.proofs.Laws.Joining.{later, repeated, lanes_repeated, lanes_and, lanes_or, lanes_xor, lanes_none}
use Rattle.digits.proofs.Laws.Folding.{lower_bits, upper_bits}

-- the digit of a value that is not 3
of_value : (v : ℕ) → v < 4 → (bit v 0 && bit v 1) ≡ false → Digit (48 + v) (bit v 0) (bit v 1)
unfolding bit
of_value zero h e = record { low = omega arith; high = omega arith; is_access = refl; is_writeback = refl }
of_value (suc zero) h e = record { low = omega arith; high = omega arith; is_access = refl; is_writeback = refl }
of_value (suc (suc zero)) h e = record { low = omega arith; high = omega arith; is_access = refl; is_writeback = refl }
of_value (suc (suc (suc zero))) h e = absurd (false≢true (sym e))
of_value (suc (suc (suc (suc v)))) h e = absurd (omega arith)

-- a byte that `^ 48` takes below 4 is 48 and that value
digit : (x : ℕ) → bit_xor x 48 < 4 → (bit (bit_xor x 48) 0 && bit (bit_xor x 48) 1) ≡ false
    → Digit x (bit (bit_xor x 48) 0) (bit (bit_xor x 48) 1)
digit x h e =
    let v = bit_xor x 48 in
    let s : 48 + bit_xor x 48 ≡ x = omega (arith, xor_add_and x 48, and_high x 2 4) in
    subst (λ (y : ℕ). Digit y (bit v 0) (bit v 1)) s (of_value v h e)

-- in each of eight bytes: the digit 0, and the bits above the lowest two
zeros : Lanes (λ i. 48) 8 0x3030303030303030
unfolding repeated
zeros = lanes_repeated 48 (omega arith) 8

others : Lanes (λ i. 252) 8 0xfcfcfcfcfcfcfcfc
unfolding repeated
others = lanes_repeated 252 (omega arith) 8

-- two bytes of which neither has such a bit
few : (x y : ℕ) → x < 256 → y < 256 → bit_and (bit_or x y) 252 ≡ 0 → (x < 4) × (y < 4)
few x y h k e =
    let o = bit_or x y in
    let b : o / 4 < 64 = omega (arith, or_lt 8 x y h k) in
    let q : o / 4 ≡ 0 = omega (arith, mod-eq_of_lt b, sym (and_high o 6 2) ∙ e) in
    (omega (arith, q, or_add_and x y, and_le_r x y), omega (arith, q, or_add_and x y, and_le_l x y))

-- eight such pairs
all_few : {f g : ℕ → ℕ} {m n : ℕ} → Lanes f 8 m → Lanes g 8 n → ((i : ℕ) → f i < 256) → ((i : ℕ) → g i < 256)
    → bit_and (bit_or m n) 0xfcfcfcfcfcfcfcfc ≡ 0 → (i : ℕ) → i < 8 → (f i < 4) × (g i < 4)
all_few {f} {g} {m} {n} l k p q e i h =
    let none : Lanes (λ i. bit_and (bit_or (f i) (g i)) 252) 8 0 = subst (Lanes (λ i. bit_and (bit_or (f i) (g i)) 252) 8) e (lanes_and (lanes_or l k) others) in
    few (f i) (g i) (p i) (q i) (lanes_none none i h (and_lt 8 (bit_or (f i) (g i)) 252 (or_lt 8 (f i) (g i) (p i) (q i)) (omega arith)))

-- what holds of the first, of eight more and of eight more, holds of seventeen
module _ (P : ℕ → Type 0) (first : P 0) (low : (i : ℕ) → i < 8 → P (1 + i)) (high : (i : ℕ) → i < 8 → P (9 + i)) where
  seventeen : (n : ℕ) → n < 17 → P n
  seventeen n h = go (dec_lt n 1) (dec_lt n 9)
    where
      go : Dec (n < 1) → Dec (n < 9) → P n
      go (yes p) o = let e : 0 ≡ n = omega arith in subst P e first
      go (no p) (yes q) = let e : 1 + (n - 1) ≡ n = omega arith in subst P e (low (n - 1) (omega arith))
      go (no p) (no q) = let e : 9 + (n - 9) ≡ n = omega arith in subst P e (high (n - 9) (omega arith))

pub laid : (first low high : ℕ) → first < 2 → low < 256 → high < 256 → Laid first low high (first + (low + high * 256) * 2)
laid first low high a b c = record {
  small = omega arith;
  at_first = join_low first (low + high * 256) 1 0 a (omega arith);
  at_low = λ i h. join_high first (low + high * 256) 1 i a ∙ join_low low high 8 i b h;
  at_high = λ i h.
      let e : 9 + i ≡ 1 + (8 + i) = omega arith in
      rw e (join_high first (low + high * 256) 1 (8 + i) a ∙ join_high low high 8 i b);
}

-- each bit of what is laid side by side
laid_each : (t : ℕ → Bool) {first low high r : ℕ} → Laid first low high r → bit first 0 ≡ t 0
    → ((i : ℕ) → i < 8 → bit low i ≡ t (1 + i)) → ((i : ℕ) → i < 8 → bit high i ≡ t (9 + i)) → (n : ℕ) → n < 17 → bit r n ≡ t n
laid_each t {first} {low} {high} {r} l e p q =
    seventeen (λ n. bit r n ≡ t n) (l.at_first ∙ e) (λ i h. l.at_low i h ∙ p i h) (λ i h. l.at_high i h ∙ q i h)

module _ (b : List ℕ) (at : ℕ) (bytes : (n : ℕ) → get_or b n 0 < 256) where
  -- the value of digit n
  abbrev value : ℕ → ℕ
  value n = bit_xor (from b at n) 48

  value_small : (n : ℕ) → value n < 256
  value_small n = xor_lt 8 (from b at n) 48 (bytes (at + n)) (omega arith)

  -- eight values from digit k on
  values : (k : ℕ) {m : ℕ} → Lanes (from b (at + k)) 8 m → Lanes (λ i. value (k + i)) 8 (bit_xor m 0x3030303030303030)
  values k l = lanes_xor (later b at k l) zeros

  -- masks of which each bit is that of its digit's value, and no number is in both
  marked : {a w : ℕ} → ((n : ℕ) → n < 17 → value n < 4) → ((n : ℕ) → n < 17 → bit a n ≡ bit (value n) 0)
      → ((n : ℕ) → n < 17 → bit w n ≡ bit (value n) 1) → a < 131072 → w < 131072 → bit_and a w ≡ 0 → Offered b at a w
  marked {a} {w} v p q s t apart = record {
    each = λ n h.
        let e : (bit (value n) 0 && bit (value n) 1) ≡ false =
        ap₂ (λ (x y : Bool). x && y) (sym (p n h)) (sym (q n h)) ∙ sym (bit_and_lem a w n) ∙ ap (λ (y : ℕ). bit y n) apart ∙ bit_zero n in
        rw (p n h, q n h) (digit (from b at n) (v n h) e);
    no_access = λ n h. bit_above 17 a n s h;
    no_writeback = λ n h. bit_above 17 w n t h;
    small_access = s;
    small_writeback = t;
  }

  -- the masks that the code makes, where none of its tests answers
  module _ {x m₁ m₂ : ℕ} (x-is : x ≡ get_or b at 0) (l₁ : Lanes (from b (at + 1)) 8 m₁) (l₂ : Lanes (from b (at + 9)) 8 m₂) where
    abbrev best : ℕ
    best = bit_xor x 48

    abbrev low : ℕ
    low = bit_xor m₁ 0x3030303030303030

    abbrev high : ℕ
    high = bit_xor m₂ 0x3030303030303030

    best_is : best ≡ value 0
    best_is =
        let e : at ≡ at + 0 = omega arith in
        ap (λ (y : ℕ). bit_xor y 48) (x-is ∙ ap (λ (n : ℕ). get_or b n 0) e)

    values_few : bit_and (bit_or low high) 0xfcfcfcfcfcfcfcfc ≡ 0 → best ≤ 3 → (n : ℕ) → n < 17 → value n < 4
    values_few none h =
        let all = all_few (values 1 l₁) (values 9 l₂) (λ i. value_small (1 + i)) (λ i. value_small (9 + i)) none in
        seventeen (λ n. value n < 4) (omega (arith, best_is)) (λ i p. (all i p).0) (λ i p. (all i p).1)

    module _ {y z : ℕ} (y-is : Folded low y) (z-is : Folded high z) (small : (n : ℕ) → n < 17 → value n < 4) where
      access_is : {gl gh a : ℕ} → Gathered y gl → Gathered z gh → Laid (bit_and best 1) gl gh a → (n : ℕ) → n < 17 → bit a n ≡ bit (value n) 0
      access_is g h l =
          laid_each (λ n. bit (value n) 0) l
          (bit_and_lem best 1 0 ∙ ap (λ (b : Bool). bit best 0 && b) (bit_pow 0 0) ∙ and-true (bit best 0) ∙ ap (λ (v : ℕ). bit v 0) best_is)
          (lower_bits (values 1 l₁) (λ i p. small (1 + i) (omega arith)) y-is g)
          (lower_bits (values 9 l₂) (λ i p. small (9 + i) (omega arith)) z-is h)

      writeback_is : {gl gh w : ℕ} → Gathered (y / 2) gl → Gathered (z / 2) gh → Laid (best / 2) gl gh w → (n : ℕ) → n < 17 → bit w n ≡ bit (value n) 1
      writeback_is g h l =
          laid_each (λ n. bit (value n) 1) l (bit_shr best 1 0 ∙ ap (λ (v : ℕ). bit v 1) best_is)
          (upper_bits (values 1 l₁) (λ i p. small (1 + i) (omega arith)) y-is g)
          (upper_bits (values 9 l₂) (λ i p. small (9 + i) (omega arith)) z-is h)

    pub offered : {y z gl gh hl hh a w : ℕ} → bit_and (bit_or low high) 0xfcfcfcfcfcfcfcfc ≡ 0 → best ≤ 3 → Folded low y → Folded high z
        → Gathered y gl → Gathered z gh → Laid (bit_and best 1) gl gh a
        → Gathered (y / 2) hl → Gathered (z / 2) hh → Laid (best / 2) hl hh w
        → bit_and a w ≡ 0 → Offered b at a w
    offered none h y-is z-is g₁ g₂ la h₁ h₂ lw apart =
        let small = values_few none h in
        marked small (access_is y-is z-is small g₁ g₂ la) (writeback_is y-is z-is small h₁ h₂ lw) la.small lw.small apart
