-- Laws of the lowest set bit from the turn on: trailing zeros give it, and it is the number that is asked first and passes.
-- Assumes nothing.
use mathlib.Core.Path.{◌≡◌, refl, sym, ap, ◌∙◌}
use mathlib.Core.Logic.{◌≢◌}
use mathlib.Core.Bool.{Bool, true, false, cond, false≢true}
use Prim.Native.Nat.{ℕ, zero, suc, ◌+◌, ◌-◌, ◌*◌, ◌/◌, ◌%◌, ◌^◌, ◌<◌, ◌≤◌}
use native.Mathlib.Omega.{arith}
use native.Mathlib.Nat.{mod-eq_of_lt}
use native.Mathlib.Decide.{ℕ_discrete, dec_lt}
use lib.Dec.{eqb}
use lib.Count.{count_trailing_zeros}
use borrow.Author.Tests.{eq-eqb, ne_eqb, eqb-true, eqb-false}
use Rattle.table.specs.Ranges.{lowest}
use Rattle.table.proofs.Tables.{miss, hit}
use Rattle.table.proofs.Searches.{Lowest, lowest_is, lowest_at, lowest_none}
use Rattle.bits.specs.Bits.{bit}
use Rattle.bits.proofs.Laws.{lowest_below, lowest_set, lowest_there, bit_above, bit_zero, cleared_low, cleared_high, cleared_le}
use Rattle.regulator.specs.Turn.{after, ask, distance}
use Rattle.regulator.proofs.Laws.Asking.{after_most, ask_none, ask_here, away, away_is}
use Rattle.engine.specs.Masks.{at_or_after, lowest_bit}
use Rattle.engine.specs.Inner.{picked_of}

-- ---- what the code has: a mask with the bits below the turn cleared, and its trailing zeros

module _ (m turn : ℕ) (small : turn ≤ 16) (fits : m < 131072) where
  -- `mask >> turn << turn` loses nothing above
  pub exact : (m / 2 ^ turn * 2 ^ turn) % 4294967296 ≡ m / 2 ^ turn * 2 ^ turn
  exact = mod-eq_of_lt (omega (arith, cleared_le m turn))

  set_most : (n : ℕ) → bit m n ≡ true → n ≤ 16
  set_most n e = go (dec_lt n 17)
    where
      go : Dec (n < 17) → n ≤ 16
      go (yes h) = omega arith
      go (no h) = absurd (false≢true (sym (bit_above 17 m n fits (omega arith)) ∙ e))

  abbrev from_turn : ℕ
  from_turn = m / 2 ^ turn * 2 ^ turn

  -- a bit at or after the turn
  module _ (some : from_turn ≢ 0) where
    abbrev first : ℕ
    first = count_trailing_zeros 32 from_turn

    first_set : bit from_turn first ≡ true
    first_set = lowest_set 32 from_turn (lowest_there 32 from_turn (omega (arith, cleared_le m turn)) some)

    first_low : turn ≤ first
    first_low = go (dec_lt first turn)
      where
        go : Dec (first < turn) → turn ≤ first
        go (yes h) = absurd (false≢true (sym (cleared_low m turn first h) ∙ first_set))
        go (no h) = omega arith

    first_here : bit m first ≡ true
    first_here = sym (cleared_high m turn first first_low) ∙ first_set

    first_most : first ≤ 16
    first_most = set_most first first_here

    first_after : at_or_after m turn ≡ first
    first_after =
        lowest_at (bit m) turn (17 - turn) first first_low (omega (arith, first_most)) first_here
        (λ i a b. sym (cleared_high m turn i a) ∙ lowest_below 32 from_turn i b)

    first_is : lowest_bit m turn ≡ first
    unfolding lowest_bit
    first_is = miss _ _ _ (ne_eqb (at_or_after m turn) 17 (λ z. omega (arith, first_after, first_most))) ∙ first_after

  -- none there
  module _ (none : from_turn ≡ 0) where
    none_after : (n : ℕ) → turn ≤ n → bit m n ≡ false
    none_after n h = sym (cleared_high m turn n h) ∙ ap (λ (x : ℕ). bit x n) none ∙ bit_zero n

    over : at_or_after m turn ≡ 17
    over = lowest_none (bit m) turn (17 - turn) (λ i a b. none_after i a) ∙ omega arith

    lowest_all : lowest_bit m turn ≡ lowest (bit m) 17
    unfolding lowest_bit
    lowest_all = hit _ _ _ (eq-eqb (at_or_after m turn) 17 over)

    module _ (some : m ≢ 0) where
      round_set : bit m (count_trailing_zeros 32 m) ≡ true
      round_set = lowest_set 32 m (lowest_there 32 m (omega arith) some)

      round_low : count_trailing_zeros 32 m < turn
      round_low = go (dec_lt (count_trailing_zeros 32 m) turn)
        where
          go : Dec (count_trailing_zeros 32 m < turn) → count_trailing_zeros 32 m < turn
          go (yes h) = h
          go (no h) = absurd (false≢true (sym (none_after (count_trailing_zeros 32 m) (omega arith)) ∙ round_set))

      round_is : lowest_bit m turn ≡ count_trailing_zeros 32 m
      round_is =
          lowest_all
          ∙ lowest_at (bit m) 0 17 (count_trailing_zeros 32 m) (omega arith) (omega (arith, round_low)) round_set (λ i a b. lowest_below 32 m i b)

  -- no bit at all
  pub none_is : m ≡ 0 → lowest_bit m turn ≡ 17
  none_is e =
      let z : from_turn ≡ 0 = omega (arith, cleared_le m turn) in
      lowest_all z ∙ lowest_none (bit m) 0 17 (λ i a b. ap (λ (x : ℕ). bit x i) e ∙ bit_zero i)

  -- The number and the steps as the code has them: 17 is added where it goes round.
  pub record Chosen (n r : ℕ) : Type 0 where
    pub number : n ≡ lowest_bit m turn
    pub most : n ≤ 16
    pub added : r ≤ 17
    pub enough : turn ≤ n + r
    pub steps : n + r - turn ≡ distance turn (lowest_bit m turn)

  chosen_steps : (n r : ℕ) → n ≡ lowest_bit m turn → n ≤ 16 → n + r - turn ≡ (n + 17 - turn) % 17 → n + r - turn ≡ distance turn (lowest_bit m turn)
  chosen_steps n r e h q = q ∙ sym (ap (distance turn) (sym e) ∙ miss _ _ _ (ne_eqb n 17 (λ z. omega arith)))

  pub chosen : m ≢ 0 → (x f r : ℕ) → x ≡ from_turn → f ≡ cond (eqb x 0) m x → r ≡ cond (eqb x 0) 17 0 → Chosen (count_trailing_zeros 32 f) r
  chosen some x f r e a b = go (eqb x 0) refl
    where
      go : (z : Bool) → eqb x 0 ≡ z → Chosen (count_trailing_zeros 32 f) r
      go true q =
          let none : from_turn ≡ 0 = sym e ∙ eqb-true x 0 q in
          let i : m ≡ f = sym (a ∙ hit _ _ _ q) in
          let j : r ≡ 17 = b ∙ hit _ _ _ q in
          let l = round_low none some in
          rw (← i, j)
          (record {
            number = sym (round_is none some);
            most = omega arith;
            added = omega arith;
            enough = omega arith;
            steps = chosen_steps (count_trailing_zeros 32 m) 17 (sym (round_is none some)) (omega arith) (omega arith);
          })
      go false q =
          let there : from_turn ≢ 0 = λ z. eqb-false x 0 q (e ∙ z) in
          let i : from_turn ≡ f = sym (a ∙ miss _ _ _ q ∙ e) in
          let j : r ≡ 0 = b ∙ miss _ _ _ q in
          let l = first_low there in
          let k = first_most there in
          rw (← i, j)
          (record {
            number = sym (first_is there);
            most = k;
            added = omega arith;
            enough = omega arith;
            steps = chosen_steps (first there) 0 (sym (first_is there)) k (omega arith);
          })

-- what is picked, from its two numbers
pub picked_of_lem : (m turn n k : ℕ) → n ≡ lowest_bit m turn → k ≡ distance turn (lowest_bit m turn) → record { number = n; steps = k } ≡ picked_of m turn
picked_of_lem m turn n k e q = λ i. record { number = e i; steps = q i }

-- ---- the lowest set bit from the turn on is the number that is asked first and passes

module _ (test : ℕ → Bool) where
  -- numbers that do not pass are asked in vain
  skip : (d left n : ℕ) → n ≤ 16 → ((j : ℕ) → j < d → test (away n j) ≡ false) → ask test n (d + left) ≡ ask test (away n d) left
  unfolding ask away
  skip zero left n h f = let e : 0 + left ≡ left = omega arith in ap (ask test n) e
  skip (suc d) left n h f =
      let e : suc d + left ≡ suc (d + left) = omega arith in
      ap (ask test n) e ∙ miss _ _ _ (f 0 (omega arith)) ∙ skip d left (after n) (after_most n h) (λ j l. f (suc j) (omega arith))

  -- the number g passes, and none of those that are asked before it
  asked : (turn g : ℕ) → turn ≤ 16 → g ≤ 16 → test g ≡ true → ((n : ℕ) → n ≤ 16 → (n + 17 - turn) % 17 < (g + 17 - turn) % 17 → test n ≡ false)
      → ask test turn 17 ≡ g
  asked turn g h l e none =
      let d = (g + 17 - turn) % 17 in
      let k : 17 ≡ d + (17 - d) = omega arith in
      let to : away turn d ≡ g = away_is d turn h ∙ omega arith in
      ap (ask test turn) k
      ∙ skip d (17 - d) turn h
      (λ j q.
      let i = away_is j turn h in
      none (away turn j) (omega (arith, i)) (omega (arith, i)))
      ∙ ap (λ (n : ℕ). ask test n (17 - d)) to
      ∙ ask_here test g (17 - d) (λ z. omega arith) e

  asked_none : (turn : ℕ) → turn ≤ 16 → ((n : ℕ) → n ≤ 16 → test n ≡ false) → ask test turn 17 ≡ 17
  asked_none turn h none =
      let k : 17 ≡ 17 + 0 = omega arith in
      ap (ask test turn) k
      ∙ skip 17 0 turn h (λ j q. none (away turn j) (omega (arith, away_is j turn h)))
      ∙ ask_none test (away turn 17) 0 refl

pub lowest_asked : (m turn : ℕ) → turn ≤ 16 → lowest_bit m turn ≡ ask (bit m) turn 17
unfolding lowest_bit
lowest_asked m turn h = go (ℕ_discrete (at_or_after m turn) 17) (ℕ_discrete (lowest (bit m) 17) 17)
  where
    behind : Lowest (bit m) turn (turn + (17 - turn)) (at_or_after m turn)
    behind = lowest_is (bit m) turn (17 - turn)

    all : Lowest (bit m) 0 (0 + 17) (lowest (bit m) 17)
    all = lowest_is (bit m) 0 17

    before_turn : at_or_after m turn ≡ 17 → (g : ℕ) → g ≤ 16 → bit m g ≡ true → g < turn
    before_turn q g l e = at (dec_lt g turn)
      where
        at : Dec (g < turn) → g < turn
        at (yes k) = k
        at (no k) = absurd (false≢true (sym (behind.before g (omega arith) (omega (arith, q))) ∙ e))

    earlier : at_or_after m turn ≡ 17 → lowest (bit m) 17 < turn → (n : ℕ) → n ≤ 16
        → (n + 17 - turn) % 17 < (lowest (bit m) 17 + 17 - turn) % 17 → Dec (n < turn) → bit m n ≡ false
    earlier q low n l o (yes k) = all.before n (omega arith) (omega arith)
    earlier q low n l o (no k) = behind.before n (omega arith) (omega (arith, q))

    go : Dec (at_or_after m turn ≡ 17) → Dec (lowest (bit m) 17 ≡ 17) → lowest_bit m turn ≡ ask (bit m) turn 17
    go (yes q) (yes r) =
        hit _ _ _ (eq-eqb (at_or_after m turn) 17 q) ∙ r
        ∙ sym (asked_none (bit m) turn h (λ n l. all.before n (omega arith) (omega (arith, r))))
    go (yes q) (no r) =
        let g = lowest (bit m) 17 in
        let set : bit m g ≡ true = all.holds (omega (arith, r, all.most)) in
        let low : g < turn = before_turn q g (omega (arith, all.most, r)) set in
        hit _ _ _ (eq-eqb (at_or_after m turn) 17 q)
        ∙ sym (asked (bit m) turn g h (omega arith) set (λ n l o. earlier q low n l o (dec_lt n turn)))
    go (no q) d =
        let g = at_or_after m turn in
        miss _ _ _ (ne_eqb g 17 q)
        ∙ sym (asked (bit m) turn g h (omega (arith, q, behind.most)) (behind.holds (omega (arith, q, behind.most)))
        (λ n l o. behind.before n (omega (arith, behind.from, behind.most, q)) (omega (arith, behind.from, behind.most, q))))
