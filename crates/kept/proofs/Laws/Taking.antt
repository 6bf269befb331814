-- What a grant to a domain takes, as digits: one change of the state for all kinds of grant.
-- Assumes nothing.
use mathlib.Core.Path.{◌≡◌, refl, sym, ap, ap₂, ◌∙◌}
use mathlib.Core.Logic.{◌≢◌}
use mathlib.Core.Bool.{Bool, true, false, cond, not, ◌&&◌}
use mathlib.Core.List.{List}
use Prim.Native.Nat.{ℕ, zero, suc, ◌+◌, ◌-◌, ◌<◌, ◌≤◌}
use native.Mathlib.Nat.{sub-zero, add-zero}
use native.Mathlib.Omega.{arith}
use lib.Dec.{ltb, eqb}
use lib.ListN.{set}
use lib.Seq.{set-get_or}
use borrow.Author.Tests.{ne_eqb, lt-ltb}
use Rattle.table.specs.Sums.{nth, raised, lowered}
use Rattle.table.proofs.Tables.{miss}
use Rattle.regulator.specs.Grant.{on_claim, on_stock, on_writeback, domain_grant, grant}
use Rattle.regulator.specs.declared.state.State.{State}
use Rattle.kept.specs.Tables.{Few}
use Rattle.kept.specs.Grant.{one, taken_of}
use Rattle.kept.specs.declared.tables.Taken.{Taken}

-- What the code makes of three digits is what is taken: claim where it is no writeback, and stock where neither is 1.
of_claim_lem : (w h : Bool) → (h && not w) ≡ (not w && h)
of_claim_lem true true = refl
of_claim_lem true false = refl
of_claim_lem false true = refl
of_claim_lem false false = refl

of_stock_lem : (w h : Bool) → 1 - (one (not w && h) + one w) ≡ one (not w && not h)
of_stock_lem true h = refl
of_stock_lem false true = refl
of_stock_lem false false = refl

one_kind : (w h : Bool) → one (not w && h) + one w ≤ 1
one_kind true h = omega arith
one_kind false true = omega arith
one_kind false false = omega arith

module _ (w h q : Bool) (v c b : ℕ) (vs : v ≡ one w) (cs : c ≡ one (h && not w)) (bs : b ≡ one (w && q)) where
  claimed : c ≡ one (not w && h)
  claimed = cs ∙ ap one (of_claim_lem w h)

  pub digits_most : c + v ≤ 1
  digits_most = omega (arith, claimed, vs, one_kind w h)

  pub digits_taken : ◌≡◌ {A = Taken} (record { claim = c; stock = 1 - (c + v); writeback = v; writebackclaim = b }) (taken_of w h q)
  digits_taken = λ i.
      record {
        claim = claimed i;
        stock = (ap₂ (λ (x y : ℕ). 1 - (x + y)) claimed vs ∙ of_stock_lem w h) i;
        writeback = vs i;
        writebackclaim = bs i;
      }

pub few : (w h q : Bool) → Few (taken_of w h q)
few true h true = record { claim = omega arith; stock = omega arith; writeback = omega arith; claims = omega arith }
few true h false = record { claim = omega arith; stock = omega arith; writeback = omega arith; claims = omega arith }
few false true q = record { claim = omega arith; stock = omega arith; writeback = omega arith; claims = omega arith }
few false false q = record { claim = omega arith; stock = omega arith; writeback = omega arith; claims = omega arith }

-- No more is taken than there is, and what is taken tells the bits.
pub claim_le : (x : ℕ) (w : Bool) → one (not w && ltb 0 x) ≤ x
claim_le x true = omega arith
claim_le zero false = omega arith
claim_le (suc x) false = rw (lt-ltb 0 (suc x) (omega arith)) (omega arith)

pub back_le : (x : ℕ) (w : Bool) → one (w && ltb 0 x) ≤ x
back_le x false = omega arith
back_le zero true = omega arith
back_le (suc x) true = rw (lt-ltb 0 (suc x) (omega arith)) (omega arith)

pub stock_taken : (w h : Bool) → one (not w && not h) ≢ 0 → (w ≡ false) × (h ≡ false)
stock_taken true h n = absurd (n refl)
stock_taken false true n = absurd (n refl)
stock_taken false false n = (refl, refl)

pub written : (w : Bool) → one w ≢ 0 → w ≡ true
written true n = refl
written false n = absurd (n refl)

-- a list of which 0 is taken, or to which 0 is added
lowered_zero : (l : List ℕ) (j : ℕ) → lowered l j 0 ≡ l
unfolding lowered
lowered_zero l j = ap (set l j) (sub-zero (nth l j)) ∙ set-get_or l j 0

raised_zero : (l : List ℕ) (j : ℕ) → raised l j 0 ≡ l
unfolding raised
raised_zero l j = ap (set l j) (add-zero (nth l j)) ∙ set-get_or l j 0

module _ (s : State) (j : ℕ) where
  -- the state with another stock and other tables
  abbrev with_tables : (stock : ℕ) (claim reserved reclaimed writebacks writebackclaim : List ℕ) → State
  with_tables stock claim reserved reclaimed writebacks writebackclaim =
      record {
        plan = s.plan;
        decided = s.decided;
        closed = s.closed;
        idle = s.idle;
        best = s.best;
        stock = stock;
        turn = s.turn;
        claim = claim;
        reserved = reserved;
        reclaimed = reclaimed;
        yielded = s.yielded;
        writebacks = writebacks;
        steps = s.steps;
        waiting = s.waiting;
        writebackclaim = writebackclaim;
        tracked = s.tracked;
      }

  -- a grant to the domain at index j that takes d
  abbrev pub taking : Taken → State
  taking d =
      with_tables (s.stock - d.stock) (lowered s.claim j d.claim) (raised s.reserved j d.claim)
      (raised s.reclaimed j d.stock) (raised s.writebacks j d.writeback) (lowered s.writebackclaim j d.writebackclaim)

  one_grant : (w h q : Bool) → cond w (on_writeback s j q) (cond h (on_claim s j) (on_stock s j)) ≡ taking (taken_of w h q)
  one_grant true h true = λ i.
      with_tables (sym (sub-zero s.stock) i) (sym (lowered_zero s.claim j) i) (sym (raised_zero s.reserved j) i)
      (sym (raised_zero s.reclaimed j) i) (raised s.writebacks j 1) (lowered s.writebackclaim j 1)
  one_grant true h false = λ i.
      with_tables (sym (sub-zero s.stock) i) (sym (lowered_zero s.claim j) i) (sym (raised_zero s.reserved j) i)
      (sym (raised_zero s.reclaimed j) i) (raised s.writebacks j 1) (sym (lowered_zero s.writebackclaim j) i)
  one_grant false true q = λ i.
      with_tables (sym (sub-zero s.stock) i) (lowered s.claim j 1) (raised s.reserved j 1)
      (sym (raised_zero s.reclaimed j) i) (sym (raised_zero s.writebacks j) i) (sym (lowered_zero s.writebackclaim j) i)
  one_grant false false q = λ i.
      with_tables (s.stock - 1) (sym (lowered_zero s.claim j) i) (sym (raised_zero s.reserved j) i)
      (raised s.reclaimed j 1) (sym (raised_zero s.writebacks j) i) (sym (lowered_zero s.writebackclaim j) i)

-- the regulator's grant to domain n
pub grant_taking : (s : State) (o : List ℕ) (n : ℕ) → 0 < n → n ≤ 16
    → grant s o n ≡ taking s (n - 1) (taken_of (eqb (nth o n) 2) (ltb 0 (nth s.claim (n - 1))) (ltb 0 (nth s.writebackclaim (n - 1))))
unfolding grant domain_grant
grant_taking s o n lo hi =
    miss _ _ _ (ne_eqb n 17 (λ z. omega arith))
    ∙ miss _ _ _ (ne_eqb n 0 (λ z. omega arith))
    ∙ one_grant s (n - 1) (eqb (nth o n) 2) (ltb 0 (nth s.claim (n - 1))) (ltb 0 (nth s.writebackclaim (n - 1)))
