-- Laws of bits of which one stands every four: left where they stand by a mask, and laid side by side by a product.
-- Assumes nothing.
use mathlib.Core.Path.{◌≡◌, ap, ap₂, ◌∙◌}
use Prim.Native.Nat.{ℕ, zero, suc, ◌+◌, ◌*◌, ◌/◌, ◌%◌, ◌^◌, ◌<◌, ◌≤◌}
use native.Mathlib.Nat.{pow-suc}
use native.Mathlib.Omega.{arith}
use lib.Arith.{digits_div, digits_mod}
use lib.Dec.{eqb}
use lib.Bits.{bit_and, and_mask, and_block, and_zero_r}
use Rattle.bits.specs.Bits.{bit}
use Rattle.bits.proofs.Laws.{bit_shr, join_low, join_high}
use Rattle.digits.specs.Lanes.{Gathered}
use Rattle.digits.proofs.Laws.Joining.{repeated}

-- every fourth bit of x, w of them, where they stand
unfoldable fourths : ℕ → ℕ → ℕ
fourths zero x = 0
fourths (suc w) x = x % 2 + fourths w (x / 16) * 16

masked : (w x : ℕ) → bit_and x (repeated 16 1 w) ≡ fourths w x
unfolding repeated fourths
masked zero x = and_zero_r x
masked (suc w) x =
    let e : x ≡ x / 16 * 16 + x % 16 = omega arith in
    let m : 1 + repeated 16 1 w * 16 ≡ repeated 16 1 w * 16 + 1 = omega arith in
    ap₂ bit_and e m
    ∙ and_block 4 (x / 16) (repeated 16 1 w) (x % 16) 1 (omega arith) (omega arith)
    ∙ ap₂ (λ (y z : ℕ). y * 16 + z) (masked w (x / 16)) (and_mask (x % 16) 1)
    ∙ omega arith

-- every eighth bit of x, w of them, side by side
unfoldable eighths : ℕ → ℕ → ℕ
eighths zero x = 0
eighths (suc w) x = x % 2 + eighths w (x / 16 / 16) * 2

eighths_small : (w x : ℕ) → eighths w x < 2 ^ w
unfolding eighths
eighths_small zero x = omega arith
eighths_small (suc w) x = omega (arith, eighths_small w (x / 16 / 16), pow-suc 2 w)

-- one byte further up
byte_up : (x i : ℕ) → bit (x / 16 / 16) (8 * i) ≡ bit x (8 * suc i)
byte_up x i =
    let e : 4 + (4 + 8 * i) ≡ 8 * suc i = omega arith in
    bit_shr (x / 16) 4 (8 * i) ∙ bit_shr x 4 (4 + 8 * i) ∙ ap (bit x) e

eighths_each : (w x i : ℕ) → i < w → bit (eighths w x) i ≡ bit x (8 * i)
unfolding bit eighths
eighths_each zero x i h = absurd (omega arith)
eighths_each (suc w) x zero h =
    let e : (x % 2 + eighths w (x / 16 / 16) * 2) % 2 ≡ x % 2 = omega arith in
    ap (λ (d : ℕ). eqb d 1) e
eighths_each (suc w) x (suc i) h =
    let e : (x % 2 + eighths w (x / 16 / 16) * 2) / 2 ≡ eighths w (x / 16 / 16) = omega arith in
    ap (λ (m : ℕ). bit m i) e ∙ eighths_each w (x / 16 / 16) i (omega arith) ∙ byte_up x i

-- four bytes up to 17 under the product: from bit 28 to bit 35 they stand each one bit behind the one before
module _ (a b c d : ℕ) (a-is : a ≤ 17) (b-is : b ≤ 17) (c-is : c ≤ 17) (d-is : d ≤ 17) where
  abbrev above : ℕ
  above = b + c * 258 + d * 66052

  abbrev within : ℕ
  within = a + (b + (c + d * 2) * 2) * 2

  abbrev below : ℕ
  below = a * 2113664 + b * 4227072 + c * 8388608

  pressed : (a + (b + (c + d * 256) * 256) * 256) * 0x10204080 / 0x10000000 % 256 ≡ within
  pressed =
      let e : (a + (b + (c + d * 256) * 256) * 256) * 0x10204080 ≡ (above * 256 + within) * 0x10000000 + below = omega arith in
      ap (λ (n : ℕ). n / 0x10000000 % 256) e
      ∙ ap (λ (n : ℕ). n % 256) (digits_div (above * 256 + within) {m = 0x10000000} {r = below} (omega arith))
      ∙ digits_mod above {m = 256} {r = within} (omega arith)

-- eight bits, one every four
module _ (a b c d e f g h : ℕ) (a-is : a < 2) (b-is : b < 2) (c-is : c < 2) (d-is : d < 2) (e-is : e < 2) (f-is : f < 2) (g-is : g < 2) (h-is : h < 2) where
  abbrev whole : ℕ
  whole = a + (b + (c + (d + (e + (f + (g + h * 16) * 16) * 16) * 16) * 16) * 16) * 16

  eight : whole * 0x10204080 / 0x10000000 % 256 ≡ a + (c + (e + g * 2) * 2) * 2 + (b + (d + (f + h * 2) * 2) * 2) * 16
  eight =
      let m : whole ≡ a + b * 16 + (c + d * 16 + (e + f * 16 + (g + h * 16) * 256) * 256) * 256 = omega arith in
      ap (λ (n : ℕ). n * 0x10204080 / 0x10000000 % 256) m
      ∙ pressed (a + b * 16) (c + d * 16) (e + f * 16) (g + h * 16) (omega arith) (omega arith) (omega arith) (omega arith)
      ∙ omega arith

fourths_pressed : (x : ℕ) → fourths 8 x * 0x10204080 / 0x10000000 % 256 ≡ eighths 4 x + eighths 4 (x / 16) * 16
unfolding fourths eighths
fourths_pressed x =
    let b = x / 16 in
    let c = b / 16 in
    let d = c / 16 in
    let e = d / 16 in
    let f = e / 16 in
    let g = f / 16 in
    let h = g / 16 in
    eight (x % 2) (b % 2) (c % 2) (d % 2) (e % 2) (f % 2) (g % 2) (h % 2 + 0)
    (omega arith) (omega arith) (omega arith) (omega arith) (omega arith) (omega arith) (omega arith) (omega arith)
    ∙ omega arith

pub gathered : (x : ℕ) → Gathered x (bit_and (bit_and x 0x11111111 * 0x10204080 / 0x10000000) 255)
unfolding repeated
gathered x =
    let r = bit_and (bit_and x 0x11111111 * 0x10204080 / 0x10000000) 255 in
    let e : r ≡ eighths 4 x + eighths 4 (x / 16) * 16 =
    and_mask (bit_and x 0x11111111 * 0x10204080 / 0x10000000) 8
    ∙ ap (λ (n : ℕ). n * 0x10204080 / 0x10000000 % 256) (masked 8 x)
    ∙ fourths_pressed x in
    let low = eighths_small 4 x in
    let high = eighths_small 4 (x / 16) in
    record {
      small = omega (arith, e);
      lower = λ i h. ap (λ (n : ℕ). bit n i) e ∙ join_low (eighths 4 x) (eighths 4 (x / 16)) 4 i low h ∙ eighths_each 4 x i h;
      upper = λ i h.
          let n : 4 + 8 * i ≡ 8 * i + 4 = omega arith in
          ap (λ (m : ℕ). bit m (4 + i)) e
          ∙ join_high (eighths 4 x) (eighths 4 (x / 16)) 4 i low
          ∙ eighths_each 4 (x / 16) i h
          ∙ bit_shr x 4 (8 * i)
          ∙ ap (bit x) n;
    }
