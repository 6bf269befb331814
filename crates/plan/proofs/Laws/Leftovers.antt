-- What reading answers beside the earlier rule: the line of leftovers, and the claims of document 02, Point 5.
-- Assumes nothing.
use mathlib.Core.Path.{◌≡◌, refl, sym, ap, ap₂, subst, ◌∙◌}
use mathlib.Core.Logic.{◌≢◌}
use mathlib.Core.Bool.{Bool, true, false, cond, not, ◌&&◌, false≢true}
use mathlib.Core.List.{List, ◌++◌, map}
use Prim.Native.Nat.{ℕ, zero, suc, ◌≤◌, ◌<◌}
use native.Mathlib.Omega.{arith}
use lib.ListN.{length, get_or}
use Rattle.std.specs.Option.{MatchOption}
use Rattle.std.specs.Prelude.{Option, Some, None}
use lib.Dec.{eqb, leb, ltb}
use borrow.Author.Tests.{eqb-true, eqb-false, leb-true, leb-false, le-leb, ltb-true}
use Rattle.table.specs.Members.{has}
use Rattle.table.specs.Ranges.{some_below, lowest}
use Rattle.table.specs.Lines.{Line, first_of}
use Rattle.table.proofs.Tables.{miss, hit, neg, unapplied, first_more, applied, never}
use Rattle.table.proofs.Filling.{values_at}
use Rattle.table.proofs.Searches.{none_at, lowest_is, lowest_some, some_all, some_at}
use Rattle.plan.specs.Value.{Sized, IsLowest, plan_refusal, refusal}
use Rattle.plan.specs.Records.{zeros, record_at, record_count, period_in, number_at}
use Rattle.plan.specs.Chain.{link_table, record_table, link, fault_at, fault, chain_of, last_sum}
use Rattle.plan.specs.Reading.{head_table, refused_reading, earlier_table, leftover, leftover_line, accepted_of, read_plan, read_with_leftovers, Reading}
use Rattle.plan.specs.Walk.{seen_at}
use Rattle.plan.specs.Leftovers.{EarlierOrTwelve, Left, TwelveForLeftovers}
use Rattle.plan.specs.RoundTrip.{ReadIsAccepted}
use Rattle.plan.proofs.Laws.Values.{found_lowest}
use Rattle.plan.proofs.Laws.Reading.{good, earlier_is_accepted}

module _ (s : List ℕ) where
  abbrev some : Bool
  some = some_below (leftover s) (record_count s)

  abbrev first : ℕ
  first = lowest (leftover s) (record_count s)

  -- record 0 is none; of the others it is told by their flag and their bytes
  pub left_head : leftover s 0 ≡ false
  unfolding leftover
  left_head = refl

  pub left_at : (seen : List Bool) (i : ℕ) → seen ≡ seen_at (chain_of s) → 1 ≤ i → i < 64
      → leftover s i ≡ (not (get_or seen i false) && not (zeros (record_at s i)))
  unfolding leftover
  left_at seen i e low high =
      rw (le-leb 1 i low, e, values_at (λ (k : ℕ). has k (chain_of s)) false 64 i high)

  -- the search of the records from 1 up, by their flags and bytes
  module _ (seen : List Bool) where
    abbrev pub Flagged : ℕ → Bool → Type 0
    Flagged i b = (not (get_or seen i false) && not (zeros (record_at s i))) ≡ b

    abbrev pub First : Option ℕ → Type 0
    First r = MatchOption r
        ((k : ℕ) → 1 ≤ k → k < record_count s → Flagged k false)
        (λ i. (1 ≤ i) × (i < record_count s) × Flagged i true × ((k : ℕ) → 1 ≤ k → k < i → Flagged k false))

    module _ (flags : seen ≡ seen_at (chain_of s)) (short : length s ≤ 1024) where
      left : (i : ℕ) (b : Bool) → 1 ≤ i → i < record_count s → Flagged i b → leftover s i ≡ b
      left i b low high e = left_at seen i flags low (omega arith) ∙ e

      -- record 0 included
      clean : (n : ℕ) → n ≤ record_count s → ((k : ℕ) → 1 ≤ k → k < n → Flagged k false) → (k : ℕ) → k < n → leftover s k ≡ false
      clean n all h zero l = left_head
      clean n all h (suc k) l = left (suc k) false (omega arith) (omega arith) (h (suc k) (omega arith) l)

      pub left_lowest : (r : Option ℕ) → First r → IsLowest (leftover s) (record_count s) r
      left_lowest (Some i) h =
          found_lowest (leftover s) (record_count s) (Some i)
          (omega arith, h.1, left i true h.0 h.1 h.2, λ k a b. clean i (omega (arith, h.1)) h.3 k b)
      left_lowest None h = found_lowest (leftover s) (record_count s) None (λ k a b. clean (record_count s) (omega arith) h k b)

  -- what the earlier rule refuses is refused alike
  pub read_refused : (read_with_leftovers s).refused ≢ 0 → read_plan s ≡ read_with_leftovers s
  unfolding read_plan read_with_leftovers
  read_refused f =
      first_more (earlier_table s) (leftover_line s) (accepted_of s)
      ∙ applied (λ (r : Reading). r.refused) (earlier_table s) (accepted_of s) (cond some (refused_reading 12 first) (accepted_of s)) refl f

  module _ (ok : (read_with_leftovers s).refused ≡ 0) where
    past : read_plan s ≡ cond some (refused_reading 12 first) (accepted_of s)
    unfolding read_plan
    past = first_more (earlier_table s) (leftover_line s) (accepted_of s) ∙ unapplied (earlier_table s) _ (good s ok).clear

    -- of what it takes, 12 is told where there is a leftover, and else its answer
    pub read_left : some ≡ true → read_plan s ≡ refused_reading 12 first
    read_left e = past ∙ hit _ _ _ e

    pub read_clean : some ≡ false → read_plan s ≡ read_with_leftovers s
    read_clean e = past ∙ miss _ _ _ e ∙ sym (good s ok).answer

  -- every record from 1 up off the chain is all zero: then there is none
  pub no_leftovers : ((i : ℕ) → 1 ≤ i → i < record_count s → has i (chain_of s) ≡ false → zeros (record_at s i) ≡ true) → some ≡ false
  unfolding leftover
  no_leftovers used = some_all (leftover s) (record_count s) (λ i h. go i h (leb 1 i) (has i (chain_of s)) refl refl)
    where
      go : (i : ℕ) → i < record_count s → (a b : Bool) → leb 1 i ≡ a → has i (chain_of s) ≡ b → (a && (not b && not (zeros (record_at s i)))) ≡ false
      go i h true true low on = refl
      go i h true false low on = neg (used i (leb-true 1 i low) h on)
      go i h false b low on = refl

  -- and where there is none, each of them is
  all_zero : some ≡ false → (i : ℕ) → 1 ≤ i → i < record_count s → has i (chain_of s) ≡ false → zeros (record_at s i) ≡ true
  unfolding leftover
  all_zero none i low h off =
      go (zeros (record_at s i)) (sym (ap₂ (λ (a b : Bool). a && (not b && not (zeros (record_at s i)))) (le-leb 1 i low) off) ∙ none_at (leftover s) (record_count s) i none h)
    where
      go : (b : Bool) → not b ≡ false → b ≡ true
      go true q = refl
      go false q = absurd (false≢true (sym q))

  -- the earlier rule never answers 12
  earlier_other : (read_with_leftovers s).refused ≢ 12
  unfolding read_with_leftovers fault fault_at
  earlier_other =
      go (not (eqb (first_of (head_table s) 0) 0)) (not (eqb (fault s (chain_of s)) 0)) (ltb (period_in s) (last_sum s))
      (never (λ (n : ℕ). n) 12 (head_table s) 0 tt (λ e. omega arith))
      (on (eqb (link s (chain_of s)) 0))
    where
      at : ℕ
      at = link s (chain_of s)

      lines : List (Line ℕ)
      lines = link_table (record_count s) (has at (chain_of s)) at ++ record_table (period_in s) (has (number_at s at) (map (number_at s) (chain_of s))) (record_at s at)

      on : (b : Bool) → cond b 0 (first_of lines 0) ≢ 12
      on true e = omega arith
      on false e = never (λ (n : ℕ). n) 12 lines 0 tt (λ z. omega arith) e

      go : (a b c : Bool) → first_of (head_table s) 0 ≢ 12 → fault s (chain_of s) ≢ 12
          → (cond a (refused_reading (first_of (head_table s) 0) 0) (cond b (refused_reading (fault s (chain_of s)) at) (cond c (refused_reading 10 0) (accepted_of s)))).refused ≢ 12
      go true b c f g e = f e
      go false true c f g e = g e
      go false false true f g e = omega arith
      go false false false f g e = omega arith

  -- where 12 is told the earlier rule takes the file, and there is a leftover
  twelve : (read_plan s).refused ≡ 12 → ((read_with_leftovers s).refused ≡ 0) × (some ≡ true)
  twelve e = go (eqb (read_with_leftovers s).refused 0) some refl refl
    where
      go : (a b : Bool) → eqb (read_with_leftovers s).refused 0 ≡ a → some ≡ b → ((read_with_leftovers s).refused ≡ 0) × (some ≡ true)
      go false b q r =
          absurd (earlier_other (ap (λ (x : Reading). x.refused) (sym (read_refused (eqb-false (read_with_leftovers s).refused 0 q))) ∙ e))
      go true false q r =
          absurd (earlier_other (ap (λ (x : Reading). x.refused) (sym (read_clean (eqb-true (read_with_leftovers s).refused 0 q) r)) ∙ e))
      go true true q r = (eqb-true (read_with_leftovers s).refused 0 q, r)

  -- and its place is the lowest
  place_is : (read_plan s).refused ≡ 12 → (read_plan s).place ≡ first
  place_is e = let t = twelve e in ap (λ (r : Reading). r.place) (read_left t.0 t.1)

pub earlier_or_twelve : EarlierOrTwelve
earlier_or_twelve s f = go (eqb (read_with_leftovers s).refused 0) (some s) refl refl
  where
    go : (a b : Bool) → eqb (read_with_leftovers s).refused 0 ≡ a → some s ≡ b → read_plan s ≡ read_with_leftovers s
    go false b q r = read_refused s (eqb-false (read_with_leftovers s).refused 0 q)
    go true false q r = read_clean s (eqb-true (read_with_leftovers s).refused 0 q) r
    go true true q r = absurd (f (ap (λ (x : Reading). x.refused) (read_left s (eqb-true (read_with_leftovers s).refused 0 q) r)))

pub twelve_for_leftovers : TwelveForLeftovers
twelve_for_leftovers s =
    let found = lowest_is (leftover s) 0 (record_count s) in
    record {
      taken = λ e. (twelve s e).0;
      place = λ e.
          let low : first s < record_count s = ltb-true (first s) (record_count s) (lowest_some (leftover s) (record_count s) (first s) refl ∙ (twelve s e).1) in
          subst (Left s) (sym (place_is s e)) (low, found.holds (omega arith));
      lowest = λ e i l. least i l (leb (read_plan s).place i) refl (place_is s e);
      told = λ ok i l. ap (λ (r : Reading). r.refused) (read_left s ok (some_at (leftover s) (record_count s) i l.0 l.1));
    }
  where
    least : (i : ℕ) → Left s i → (b : Bool) → leb (read_plan s).place i ≡ b → (read_plan s).place ≡ first s → (read_plan s).place ≤ i
    least i l true q e = leb-true (read_plan s).place i q
    least i l false q e =
        let below = leb-false (read_plan s).place i q in
        absurd (false≢true (sym ((lowest_is (leftover s) 0 (record_count s)).before i (omega arith) (omega (arith, e))) ∙ l.1))

-- What is known of a file that is read: the earlier rule takes it, with the same answer, and it has no leftovers.
pub record Tidy (s : List ℕ) : Type 0 where
  pub earlier : (read_with_leftovers s).refused ≡ 0
  pub same : read_plan s ≡ read_with_leftovers s
  pub unused : (i : ℕ) → 1 ≤ i → i < record_count s → has i (chain_of s) ≡ false → zeros (record_at s i) ≡ true

pub tidy : (s : List ℕ) → (read_plan s).refused ≡ 0 → Tidy s
tidy s e =
    let same = earlier_or_twelve s (λ q. omega arith) in
    let ok : (read_with_leftovers s).refused ≡ 0 = ap (λ (r : Reading). r.refused) (sym same) ∙ e in
    record { earlier = ok; same = same; unused = all_zero s (go ok (some s) refl) }
  where
    go : (read_with_leftovers s).refused ≡ 0 → (b : Bool) → some s ≡ b → some s ≡ false
    go ok true q = let n : ◌≡◌ {A = ℕ} 12 0 = ap (λ (r : Reading). r.refused) (sym (read_left s ok q)) ∙ e in absurd (omega arith)
    go ok false q = q

-- what is read is accepted as a value
pub read_is_accepted : ReadIsAccepted read_plan
read_is_accepted s e =
    let a = tidy s e in
    subst (λ (r : Reading). Sized r.plan × (plan_refusal r.plan ≡ refusal 0 0)) (sym a.same) (earlier_is_accepted s a.earlier)
