-- Laws of bytes side by side: one behind another, the same in each, and two rows of them under `&`, `|` and `^`.
-- Assumes nothing.
use mathlib.Core.Path.{◌≡◌, refl, sym, ap, subst, ◌∙◌}
use mathlib.Core.Bool.{Bool, cond, not, ◌&&◌, ◌||◌}
use mathlib.Core.List.{List}
use Prim.Native.Nat.{ℕ, zero, suc, ◌+◌, ◌-◌, ◌*◌, ◌^◌, ◌<◌}
use native.Mathlib.Nat.{add_comm}
use native.Mathlib.Decide.{dec_lt}
use native.Mathlib.Omega.{arith}
use lib.Arith.{digits_lt}
use lib.Pow.{pow-add}
use lib.ListN.{get_or}
use lib.Bits.{bit_and, bit_or, bit_xor, and_lt, or_lt, xor_lt}
use Rattle.bits.specs.Bits.{bit}
use Rattle.bits.proofs.Laws.{bit_and_lem, bit_or_lem, bit_xor_lem, bit_zero, bits_none, join_low, join_high}
use Rattle.digits.specs.Lanes.{Lanes, from}

-- one byte
pub byte : (f : ℕ → ℕ) (x : ℕ) → x < 256 → x ≡ f 0 → Lanes f 1 x
byte f x h e = record {
  bound = h;
  lane = λ i j p q.
      let y : i ≡ 0 = omega arith in
      let z : 8 * i + j ≡ j = omega arith in
      rw (z, y, e);
}

-- w bytes, and v bytes behind them
pub joined : {f : ℕ → ℕ} {w v lo hi : ℕ} → Lanes f w lo → Lanes (λ i. f (w + i)) v hi → Lanes f (w + v) (lo + hi * 2 ^ (8 * w))
joined {f} {w} {v} {lo} {hi} a b = record {
  bound =
      let e : 8 * (w + v) ≡ 8 * v + 8 * w = omega arith in
      rw (add_comm lo (hi * 2 ^ (8 * w)), e, pow-add 2 (8 * v) (8 * w)) (digits_lt b.bound a.bound);
  lane = λ i j p q. go i j p q (dec_lt i w);
}
  where
    go : (i j : ℕ) → i < w + v → j < 8 → Dec (i < w) → bit (lo + hi * 2 ^ (8 * w)) (8 * i + j) ≡ bit (f i) j
    go i j p q (yes l) = join_low lo hi (8 * w) (8 * i + j) a.bound (omega arith) ∙ a.lane i j l q
    go i j p q (no l) =
        let x : 8 * i + j ≡ 8 * w + (8 * (i - w) + j) = omega arith in
        let y : w + (i - w) ≡ i = omega arith in
        ap (bit (lo + hi * 2 ^ (8 * w))) x
        ∙ join_high lo hi (8 * w) (8 * (i - w) + j) a.bound
        ∙ b.lane (i - w) j (omega arith) q
        ∙ ap (λ (k : ℕ). bit (f k) j) y

-- the bytes of a list from a place on: one, those that begin k places later, and two rows of them
pub byte_at : (b : List ℕ) (at x : ℕ) → x < 256 → x ≡ get_or b at 0 → Lanes (from b at) 1 x
byte_at b at x h e =
    let z : at ≡ at + 0 = omega arith in
    byte (from b at) x h (e ∙ ap (λ (n : ℕ). get_or b n 0) z)

pub later : (b : List ℕ) (at k : ℕ) {w m : ℕ} → Lanes (from b (at + k)) w m → Lanes (λ i. from b at (k + i)) w m
later b at k l = record {
  bound = l.bound;
  lane = λ i j p q.
      let e : at + k + i ≡ at + (k + i) = omega arith in
      l.lane i j p q ∙ ap (λ (n : ℕ). bit (get_or b n 0) j) e;
}

pub joined_at : (b : List ℕ) (at w : ℕ) {v lo hi : ℕ} → Lanes (from b at) w lo → Lanes (from b (at + w)) v hi
    → Lanes (from b at) (w + v) (lo + hi * 2 ^ (8 * w))
joined_at b at w p q = joined p (later b at w q)

-- the same number in each of w digits to a base
unfoldable pub repeated : ℕ → ℕ → ℕ → ℕ
repeated base x zero = 0
repeated base x (suc w) = x + repeated base x w * base

pub lanes_repeated : (x : ℕ) → x < 256 → (w : ℕ) → Lanes (λ i. x) w (repeated 256 x w)
unfolding repeated
lanes_repeated x h zero = record { bound = omega arith; lane = λ i j p q. absurd (omega arith) }
lanes_repeated x h (suc w) =
    let e : 1 + w ≡ suc w = omega arith in
    subst (λ (n : ℕ). Lanes (λ i. x) n (x + repeated 256 x w * 256)) e (joined (byte (λ i. x) x h refl) (lanes_repeated x h w))

-- an operation that works on each bit by itself works on each byte by itself
module _ (op : ℕ → ℕ → ℕ) (t : Bool → Bool → Bool)
    (bits : (a b n : ℕ) → bit (op a b) n ≡ t (bit a n) (bit b n))
    (fits : (k a b : ℕ) → a < 2 ^ k → b < 2 ^ k → op a b < 2 ^ k) where
  lanes_op : {f g : ℕ → ℕ} {w m n : ℕ} → Lanes f w m → Lanes g w n → Lanes (λ i. op (f i) (g i)) w (op m n)
  lanes_op {f} {g} {w} {m} {n} a b = record {
    bound = fits (8 * w) m n a.bound b.bound;
    lane = λ i j p q. bits m n (8 * i + j) ∙ rw (a.lane i j p q, b.lane i j p q) (sym (bits (f i) (g i) j));
  }

pub lanes_and : {f g : ℕ → ℕ} {w m n : ℕ} → Lanes f w m → Lanes g w n → Lanes (λ i. bit_and (f i) (g i)) w (bit_and m n)
lanes_and = lanes_op bit_and (λ p q. p && q) bit_and_lem and_lt

pub lanes_or : {f g : ℕ → ℕ} {w m n : ℕ} → Lanes f w m → Lanes g w n → Lanes (λ i. bit_or (f i) (g i)) w (bit_or m n)
lanes_or = lanes_op bit_or (λ p q. p || q) bit_or_lem or_lt

pub lanes_xor : {f g : ℕ → ℕ} {w m n : ℕ} → Lanes f w m → Lanes g w n → Lanes (λ i. bit_xor (f i) (g i)) w (bit_xor m n)
lanes_xor = lanes_op bit_xor (λ p q. cond p (not q) q) bit_xor_lem xor_lt

-- each byte of 0 is 0
pub lanes_none : {f : ℕ → ℕ} {w : ℕ} → Lanes f w 0 → (i : ℕ) → i < w → f i < 256 → f i ≡ 0
lanes_none {f} l i h s = bits_none 8 (f i) s (λ j q. sym (l.lane i j h q) ∙ bit_zero (8 * i + j))
