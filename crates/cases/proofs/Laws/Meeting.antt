-- Tests for what the premise of the exact share says of a period, so that a run is computed once and not for each fact of it.
-- Assumes nothing.
use mathlib.Core.Path.{◌≡◌, refl}
use mathlib.Core.Logic.{◌⊎◌, inl, inr}
use mathlib.Core.Bool.{Bool, true, false, ◌&&◌, ◌||◌, false≢true}
use mathlib.Core.List.{List, [], ◌∷◌}
use Prim.Native.Nat.{ℕ, ◌+◌, ◌<◌}
use native.Mathlib.Omega.{arith}
use lib.Dec.{eqb, ltb}
use borrow.Author.Tests.{eqb-true, ltb-true}
use Rattle.table.specs.Sums.{nth}
use Rattle.table.proofs.Tables.{and_both, each_test}
use Rattle.plan.specs.declared.value.Plan.{Plan}
use Rattle.share.specs.Call.{Call}
use Rattle.share.specs.Ledger.{Slot, Period}
use Rattle.share.specs.Share.{Some, Asks, claims_left, KeepsAsking}
use Rattle.cases.specs.Premise.{Met, periods_of}

-- one of two tests holds
either : (a b : Bool) → (a || b) ≡ true → (a ≡ true) ⊎ (b ≡ true)
either true b e = inl refl
either false b e = inr e

-- some element of a list, by a test
module _ {A : Type 0} (P : A → Type 0) (test : A → Bool) (sound : (x : A) → test x ≡ true → P x) where
  abbrev pub some_of : List A → Bool
  some_of [] = false
  some_of (x ∷ xs) = test x || some_of xs

  some_of_lem : (xs : List A) → some_of xs ≡ true → Some P xs
  some_of_lem [] e = absurd (false≢true e)
  some_of_lem (x ∷ xs) e = go (some_of_lem xs) (either (test x) (some_of xs) e)
    where
      go : (some_of xs ≡ true → Some P xs) → (test x ≡ true) ⊎ (some_of xs ≡ true) → Some P (x ∷ xs)
      go rest (inl q) = inl (sound x q)
      go rest (inr q) = inr (rest q)

-- the domain at index j asks in a slot, and in each where it has claim left
module _ (j : ℕ) where
  abbrev pub asks : Slot → Bool
  asks m =
      (eqb (nth m.offers (j + 1)) 1 && ltb 0 (nth m.before.claim j))
      || (eqb (nth m.offers (j + 1)) 2 && ltb 0 (nth m.before.writebackclaim j))

  slot_asks : (m : Slot) → (eqb (claims_left j m.before) 0 || asks m) ≡ true → 0 < claims_left j m.before → Asks j m
  slot_asks m e h = go (either _ _ e)
    where
      kind : ((eqb (nth m.offers (j + 1)) 1 && ltb 0 (nth m.before.claim j)) ≡ true)
          ⊎ ((eqb (nth m.offers (j + 1)) 2 && ltb 0 (nth m.before.writebackclaim j)) ≡ true)
          → Asks j m
      kind (inl q) = let b = and_both _ _ q in inl (eqb-true _ 1 b.0, ltb-true 0 _ b.1)
      kind (inr q) = let b = and_both _ _ q in inr (eqb-true _ 2 b.0, ltb-true 0 _ b.1)

      go : (eqb (claims_left j m.before) 0 ≡ true) ⊎ (asks m ≡ true) → Asks j m
      go (inl q) = absurd (omega (arith, eqb-true (claims_left j m.before) 0 q))
      go (inr q) = kind (either _ _ q)

  abbrev pub keeps : List Slot → Bool
  keeps [] = true
  keeps (m ∷ ms) = (eqb (claims_left j m.before) 0 || asks m) && keeps ms

  keeps_asking : (ms : List Slot) → keeps ms ≡ true → KeepsAsking j ms
  keeps_asking [] e = tt
  keeps_asking (m ∷ ms) e = let b = and_both _ _ e in (slot_asks m b.0, keeps_asking ms b.1)

  -- and its period is as `Met` says; some period of a run is
  module _ (reservation yielded passes writebackreservation : ℕ) where
    abbrev pub met : Period → Bool
    met q =
        eqb q.page.decided q.plan.period
        && (keeps q.slots
        && (eqb (nth q.plan.reservation j) reservation
        && (eqb (nth q.page.yielded j) yielded
        && (eqb (nth q.page.passes j) passes
        && (eqb (nth q.plan.writebackreservation j) writebackreservation
        && eqb (nth q.page.claimedwritebacks j) writebackreservation)))))

    pub met_is : (q : Period) → met q ≡ true → Met j reservation yielded passes writebackreservation q
    met_is q e =
        let c = each_test _ (_ ∷ _ ∷ _ ∷ _ ∷ _ ∷ _ ∷ []) e in
        record {
          completed = eqb-true _ _ c.0;
          asking = keeps_asking q.slots c.1.0;
          reserved = eqb-true _ _ c.1.1.0;
          gives = eqb-true _ _ c.1.1.1.0;
          takes = eqb-true _ _ c.1.1.1.1.0;
          writes = eqb-true _ _ c.1.1.1.1.1.0;
          written = eqb-true _ _ c.1.1.1.1.1.1;
        }

    abbrev pub met_in : Plan → List Call → Bool
    met_in p cs = some_of (Met j reservation yielded passes writebackreservation) met met_is (periods_of p cs)

    pub met_in_lem : (p : Plan) (cs : List Call) → met_in p cs ≡ true → Some (Met j reservation yielded passes writebackreservation) (periods_of p cs)
    met_in_lem p cs e = some_of_lem (Met j reservation yielded passes writebackreservation) met met_is (periods_of p cs) e
