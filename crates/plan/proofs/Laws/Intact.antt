-- Reading a file of which the chain is known; and the records 1, 2, .., each naming the next, as a chain.
-- Assumes nothing.
use mathlib.Core.Path.{◌≡◌, refl, sym, ap, subst, ◌∙◌}
use mathlib.Core.Bool.{Bool, true, false, cond, ◌||◌, or-true}
use mathlib.Core.List.{List, [], ◌∷◌, ◌++◌, map}
use mathlib.Core.Logic.{⊎_elim}
use Prim.Native.Nat.{ℕ, zero, suc, ◌+◌, ◌≤◌, ◌<◌}
use native.Mathlib.Numerals.{add-one}
use native.Mathlib.Decide.{ℕ_discrete}
use native.Mathlib.Omega.{arith}
use lib.Dec.{eqb, ltb}
use borrow.Author.Tests.{eq-eqb, lt-ltb, le-ltb, ltb-true}
use Rattle.table.specs.Members.{has}
use Rattle.table.specs.Lines.{first_of}
use Rattle.table.proofs.Tables.{miss, hit, neg, unapplied}
use Rattle.table.proofs.Flags.{has_none, has_snoc, has_more}
use Rattle.table.proofs.Lists.{has_nothing, has_side, has_either, Apart, apart_more}
use Rattle.plan.specs.Value.{plan_of, reserved_of}
use Rattle.plan.specs.Records.{zeros, record_at, record_count, period_in, number_at}
use Rattle.plan.specs.Chain.{link_of, link, fault, chain_of, domains_at, last_sum}
use Rattle.plan.specs.Reading.{head_table, accepted_reading, earlier_table, accepted_of, read_plan, read_with_leftovers, Reading}
use Rattle.plan.specs.Writing.{next_index}
use Rattle.plan.proofs.Laws.Sums.{sums_all}
use Rattle.plan.proofs.Laws.Links.{fault_end}
use Rattle.plan.proofs.Laws.Chains.{Leads, lead_end, lead_join, Takeable, Orderly, chain_is}
use Rattle.plan.proofs.Laws.Reading.{head_whole}
use Rattle.plan.proofs.Laws.Leftovers.{read_clean, no_leftovers}

-- A file whose length and record 0 are in order and whose links lead along records in order, to 0, with room for what
-- they reserve.
pub record Intact (t ys : List ℕ) : Type 0 where
  pub head : first_of (head_table t) 0 ≡ 0
  pub leads : Leads t 0 ys 0
  pub orderly : Orderly t ys
  pub room : reserved_of (domains_at t ys) ≤ period_in t

module _ {t ys : List ℕ} (v : Intact t ys) where
  pub intact_chain : chain_of t ≡ ys
  intact_chain = chain_is t ys (head_whole t v.head).short v.leads v.orderly

  -- the earlier rule takes it, and gives the plan of the records' domains
  pub intact_earlier : read_with_leftovers t ≡ accepted_reading (plan_of (period_in t) (domains_at t ys))
  unfolding read_with_leftovers
  intact_earlier =
      let end : link t ys ≡ 0 = lead_end t 0 ys 0 v.leads in
      let none : fault t (chain_of t) ≡ 0 = ap (fault t) intact_chain ∙ fault_end t ys end in
      let total : last_sum t ≡ reserved_of (domains_at t ys) = sums_all (domains_at t (chain_of t)) ∙ ap (λ (c : List ℕ). reserved_of (domains_at t c)) intact_chain in
      let fits : last_sum t ≤ period_in t = omega (arith, total, v.room) in
      unapplied (earlier_table t) (accepted_of t) (neg (eq-eqb _ _ v.head), (neg (eq-eqb _ _ none), (le-ltb (period_in t) (last_sum t) fits, tt)))
      ∙ ap (λ (c : List ℕ). accepted_reading (plan_of (period_in t) (domains_at t c))) intact_chain

  -- and so it is read, where every other record from 1 up is all zero
  pub intact_read : ((i : ℕ) → 1 ≤ i → i < record_count t → has i ys ≡ false → zeros (record_at t i) ≡ true)
      → read_plan t ≡ accepted_reading (plan_of (period_in t) (domains_at t ys))
  intact_read off =
      read_clean t (ap (λ (r : Reading). r.refused) intact_earlier)
      (no_leftovers t (λ i low h e. off i low h (ap (has i) (sym intact_chain) ∙ e)))
      ∙ intact_earlier

-- the records 1 to k
abbrev pub indices : ℕ → List ℕ
indices zero = []
indices (suc k) = indices k ++ (suc k ∷ [])

-- they are the numbers from 1 to k, and no others, and none is there twice
pub among : (k x : ℕ) → 1 ≤ x → x ≤ k → has x (indices k) ≡ true
among zero x low high = absurd (omega arith)
among (suc k) x low high = has_snoc x (indices k) (suc k) ∙ go (ℕ_discrete x (suc k)) (among k x low)
  where
    go : Dec (x ≡ suc k) → (x ≤ k → has x (indices k) ≡ true) → (has x (indices k) || eqb x (suc k)) ≡ true
    go (yes q) ih = ap (λ (b : Bool). has x (indices k) || b) (eq-eqb x (suc k) q) ∙ or-true (has x (indices k))
    go (no q) ih = ap (λ (b : Bool). b || eqb x (suc k)) (ih (omega arith))

beyond : (k x : ℕ) → k < x → has x (indices k) ≡ false
beyond zero x h = has_none x
beyond (suc k) x h = has_more x (indices k) (suc k) (beyond k x (omega arith)) (λ e. omega arith)

apart_indices : (k : ℕ) → Apart (indices k)
apart_indices zero = tt
apart_indices (suc k) = apart_more (indices k) (suc k) (apart_indices k) (beyond k (suc k) (omega arith))

pub next_small : (n k : ℕ) → n ≤ 64 → next_index n k < 65536
next_small n k h = go (ltb k n) refl
  where
    go : (b : Bool) → ltb k n ≡ b → cond b (k + 1) 0 < 65536
    go true e = omega (arith, ltb-true k n e)
    go false e = omega arith

-- a file in which each of the records 0 to n names the next
module _ (t : List ℕ) (n : ℕ) where
  pub leads_on : ((k : ℕ) → k ≤ n → link_of t k ≡ next_index n k) → Leads t 0 (indices n) 0
  leads_on at = subst (Leads t 0 (indices n)) (miss _ _ _ (le-ltb n n (omega arith))) (to n (omega arith))
    where
      to : (k : ℕ) → k ≤ n → Leads t 0 (indices k) (next_index n k)
      to zero h = at 0 h
      to (suc k) h =
          let ih = to k (omega arith) in
          let up : next_index n k ≡ suc k = hit _ _ _ (lt-ltb k n (omega arith)) ∙ add-one k in
          lead_join t 0 (indices k) (suc k ∷ []) (next_index n k) (next_index n (suc k)) ih (lead_end t 0 (indices k) (next_index n k) ih ∙ up, at (suc k) h)

  pub orderly_indices : ((k : ℕ) → k < n → Takeable t (suc k)) → Apart (map (number_at t) (indices n)) → Orderly t (indices n)
  orderly_indices takes numbers = record { each = to n (omega arith); apart = apart_indices n; numbers = numbers }
    where
      to : (k : ℕ) → k ≤ n → (j : ℕ) → has j (indices k) ≡ true → Takeable t j
      to zero h j e = has_nothing j e
      to (suc k) h j e =
          ⊎_elim (λ (m : has j (indices k) ≡ true). to k (omega arith) j m)
          (λ (m : has j (suc k ∷ []) ≡ true).
          ⊎_elim (λ (q : j ≡ suc k). subst (Takeable t) (sym q) (takes k (omega arith))) (λ (z : has j [] ≡ true). has_nothing j z) (has_either j (suc k) [] m))
          (has_side j (indices k) (suc k ∷ []) e)
