-- Why a number comes nearer: only the members between the turn and it can be granted before it. Where one of them is granted, the turn
-- moves past it, and fewer are ahead.
-- Assumes nothing.
use mathlib.Core.Path.{◌≡◌, refl, ap, ◌∙◌}
use mathlib.Core.Bool.{Bool, true, false, cond}
use Prim.Native.Nat.{ℕ, zero, suc, ◌+◌, ◌-◌, ◌≤◌, ◌<◌}
use native.Mathlib.Nat.{suc-add, zero-add}
use native.Mathlib.Omega.{arith}
use Rattle.table.proofs.Tables.{hit}
use Rattle.regulator.specs.Turn.{after, ask}
use Rattle.regulator.proofs.Laws.Asking.{after_most, away, away_is}

-- how many of the k numbers from n on, round from 16 to 0, are members
unfoldable pub ahead : (ℕ → Bool) → ℕ → ℕ → ℕ
ahead member n zero = 0
ahead member n (suc k) = cond (member n) 1 0 + ahead member (after n) k

module _ (member : ℕ → Bool) where
  -- k numbers, and then j more
  ahead_add : (k j n : ℕ) → ahead member n (k + j) ≡ ahead member n k + ahead member (away n k) j
  unfolding away ahead
  ahead_add zero j n = ap (ahead member n) (zero-add j) ∙ omega arith
  ahead_add (suc k) j n = ap (ahead member n) (suc-add k j) ∙ omega (arith, ahead_add k j (after n))

  -- one number more
  pub ahead_more : (k n : ℕ) → ahead member n (suc k) ≡ ahead member n k + cond (member (away n k)) 1 0
  unfolding ahead
  ahead_more k n =
      let e : suc k ≡ k + 1 = omega arith in
      ap (ahead member n) e ∙ ahead_add k 1 n ∙ omega arith

  -- a member is not ahead of itself
  pub ahead_member : (k j n : ℕ) → k < j → member (away n k) ≡ true → ahead member n k < ahead member n j
  ahead_member k j n h e =
      let q : j ≡ suc k + (j - suc k) = omega arith in
      let a : ahead member n j ≡ ahead member n (suc k) + ahead member (away n (suc k)) (j - suc k) =
      ap (ahead member n) q ∙ ahead_add (suc k) (j - suc k) n in
      let b : ahead member n (suc k) ≡ ahead member n k + 1 = ahead_more k n ∙ ap (λ (c : Bool). ahead member n k + cond c 1 0) e in
      omega arith

  -- once round, it does not matter where the count begins
  pub ahead_round : (n : ℕ) → n ≤ 16 → ahead member n 17 ≡ ahead member 0 17
  ahead_round n h =
      let p : n + (17 - n) ≡ 17 = omega arith in
      let q : 17 - n + n ≡ 17 = omega arith in
      let e : away 0 n ≡ n = away_is n 0 (omega arith) ∙ omega arith in
      let f : away n (17 - n) ≡ 0 = away_is (17 - n) n h ∙ omega arith in
      omega (arith, rw (p, e) at (ahead_add n (17 - n) 0), rw (q, f) at (ahead_add (17 - n) n n))

  -- a number k steps on: it is granted, or it is fewer steps from the turn then, with fewer members ahead
  pub data Nearer (n k granted : ℕ) : Type 0 where
    here : granted ≡ away n k → Nearer n k granted
    nearer : (j : ℕ) → j < k → away (after granted) j ≡ away n k → ahead member (after granted) j < ahead member n k → Nearer n k granted

  -- where only members pass, and this number does
  module _ (test : ℕ → Bool) (members : (n : ℕ) → n ≤ 16 → test n ≡ true → member n ≡ true) where
    pub nears : (k n left : ℕ) → n ≤ 16 → k < left → test (away n k) ≡ true → Nearer n k (ask test n left)
    unfolding ask away ahead
    nears k n zero h l e = absurd (omega arith)
    nears zero n (suc left) h l e = here (hit _ _ _ e)
    nears (suc k) n (suc left) h l e = go (test n) refl (nears k (after n) left (after_most n h) (omega arith) e)
      where
        go : (b : Bool) → test n ≡ b → Nearer (after n) k (ask test (after n) left) → Nearer n (suc k) (cond b n (ask test (after n) left))
        go true q r = nearer k (omega arith) refl (rw (members n h q) (omega arith))
        go false q (here a) = here a
        go false q (nearer j c a b) = nearer j (omega arith) a (omega arith)
