-- Laws of eight bytes below 4 that are folded: the two bits of each, and one of them gathered from each.
-- Assumes nothing.
use mathlib.Core.Path.{◌≡◌, ap, ap₂, subst, ◌∙◌}
use mathlib.Core.Bool.{Bool, false, ◌||◌, or-false}
use Prim.Native.Nat.{ℕ, ◌+◌, ◌-◌, ◌*◌, ◌/◌, ◌<◌, ◌≤◌}
use native.Mathlib.Decide.{dec_lt}
use native.Mathlib.Omega.{arith}
use lib.Bits.{bit_or}
use Rattle.bits.specs.Bits.{bit}
use Rattle.bits.proofs.Laws.{bit_or_lem, bit_shr, bit_above}
use Rattle.digits.specs.Lanes.{Lanes, Folded, Gathered}

pub folded : (x : ℕ) → Folded x (bit_or x (x / 0x10000000))
folded x = record { each = λ n. bit_or_lem x (x / 0x10000000) n ∙ ap (λ (b : Bool). bit x n || b) (bit_shr x 28 n) }

-- the bits that are gathered, by their places
gathered_each : (t : ℕ → Bool) {x r : ℕ} → Gathered x r → ((i : ℕ) → i < 4 → bit x (8 * i) ≡ t i)
    → ((i : ℕ) → i < 4 → bit x (8 * i + 4) ≡ t (4 + i)) → (i : ℕ) → i < 8 → bit r i ≡ t i
gathered_each t {x} {r} g p q i h = go (dec_lt i 4)
  where
    go : Dec (i < 4) → bit r i ≡ t i
    go (yes l) = g.lower i l ∙ p i l
    go (no l) =
        let k : i - 4 < 4 = omega arith in
        let e : 4 + (i - 4) ≡ i = omega arith in
        subst (λ (n : ℕ). bit r n ≡ t n) e (g.upper (i - 4) k ∙ q (i - 4) k)

module _ {f : ℕ → ℕ} {m y : ℕ} (l : Lanes f 8 m) (few : (i : ℕ) → i < 8 → f i < 4) (y-is : Folded m y) where
  no_bit : (i j : ℕ) → i < 8 → 2 ≤ j → j < 8 → bit m (8 * i + j) ≡ false
  no_bit i j h p q = l.lane i j h q ∙ bit_above 2 (f i) j (few i h) p

  -- nothing is laid over the bits of a lower byte, and those of an upper one over nothing
  of_lower : (i j : ℕ) → i < 4 → j < 2 → bit y (8 * i + j) ≡ bit (f i) j
  of_lower i j h q =
      let e : 28 + (8 * i + j) ≡ 8 * (3 + i) + (4 + j) = omega arith in
      y-is.each (8 * i + j)
      ∙ ap₂ (λ (a b : Bool). a || b) (l.lane i j (omega arith) (omega arith))
      (ap (bit m) e ∙ no_bit (3 + i) (4 + j) (omega arith) (omega arith) (omega arith))
      ∙ or-false (bit (f i) j)

  of_upper : (i j : ℕ) → i < 4 → j < 2 → bit y (8 * i + 4 + j) ≡ bit (f (4 + i)) j
  of_upper i j h q =
      let d : 8 * i + 4 + j ≡ 8 * i + (4 + j) = omega arith in
      let e : 28 + (8 * i + 4 + j) ≡ 8 * (4 + i) + j = omega arith in
      y-is.each (8 * i + 4 + j)
      ∙ ap₂ (λ (a b : Bool). a || b) (ap (bit m) d ∙ no_bit i (4 + j) (omega arith) (omega arith) (omega arith))
      (ap (bit m) e ∙ l.lane (4 + i) j (omega arith) (omega arith))

  -- the lower bit of each byte is gathered from y, and the other from y shifted by one
  pub lower_bits : {r : ℕ} → Gathered y r → (i : ℕ) → i < 8 → bit r i ≡ bit (f i) 0
  lower_bits g =
      gathered_each (λ i. bit (f i) 0) g
      (λ i h. let e : 8 * i ≡ 8 * i + 0 = omega arith in ap (bit y) e ∙ of_lower i 0 h (omega arith))
      (λ i h. let e : 8 * i + 4 ≡ 8 * i + 4 + 0 = omega arith in ap (bit y) e ∙ of_upper i 0 h (omega arith))

  pub upper_bits : {r : ℕ} → Gathered (y / 2) r → (i : ℕ) → i < 8 → bit r i ≡ bit (f i) 1
  upper_bits g =
      gathered_each (λ i. bit (f i) 1) g
      (λ i h. let e : 1 + 8 * i ≡ 8 * i + 1 = omega arith in bit_shr y 1 (8 * i) ∙ ap (bit y) e ∙ of_lower i 1 h (omega arith))
      (λ i h. let e : 1 + (8 * i + 4) ≡ 8 * i + 4 + 1 = omega arith in bit_shr y 1 (8 * i + 4) ∙ ap (bit y) e ∙ of_upper i 1 h (omega arith))
