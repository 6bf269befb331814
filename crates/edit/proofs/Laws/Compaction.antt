-- The claims of document 02, Points 4 and 5 on compaction.
-- Assumes nothing.
use mathlib.Core.Path.{◌≡◌, refl, sym, ap, ap₂, subst, ◌∙◌}
use mathlib.Core.Bool.{Bool, true, false, false≢true}
use mathlib.Core.List.{List, [], ◌∷◌, ◌++◌, map-append}
use Prim.Native.Nat.{ℕ, zero, suc, ◌/◌, ◌≤◌, ◌<◌}
use native.Mathlib.Decide.{ℕ_discrete}
use native.Mathlib.Omega.{arith}
use lib.ListN.{length, take, drop, replicate, length-replicate}
use lib.Seq.{take-suc, take-length}
use lib.Dec.{leb}
use borrow.Author.Tests.{eq-eqb, ne_eqb, le-leb, lt-leb, leb-true, leb-false}
use Rattle.table.specs.Sums.{nth}
use Rattle.table.specs.Members.{has, each}
use Rattle.table.specs.Ranges.{values_below}
use Rattle.table.proofs.Tables.{miss, hit}
use Rattle.table.proofs.Elements.{repeat_at}
use Rattle.table.proofs.Flags.{unset_all}
use Rattle.table.proofs.Lists.{has_at, Apart, apart_few}
use Rattle.plan.specs.Value.{plan_of, reserved_of}
use Rattle.plan.specs.Records.{zeros, record_at, record_count, period_in, domain_at}
use Rattle.plan.specs.Chain.{link_of, chain_of, domains_at, domains_in}
use Rattle.plan.specs.Reading.{accepted_reading, read_plan, read_with_leftovers}
use Rattle.plan.specs.Writing.{next_index}
use Rattle.plan.specs.declared.value.Domain.{Domain}
use Rattle.plan.proofs.Laws.Holding.{numbers}
use Rattle.plan.proofs.Laws.Links.{numbers_met}
use Rattle.plan.proofs.Laws.Chains.{Takeable, orderly_some, orderly_inside, chain_orderly}
use Rattle.plan.proofs.Laws.Reading.{Good, good}
use Rattle.plan.proofs.Laws.Intact.{Intact, intact_chain, intact_read, indices, among, next_small, leads_on, orderly_indices}
use Rattle.edit.specs.Laying.{laid, blank, relinked}
use Rattle.edit.specs.Compaction.{source, moved_record, compacted, SameDomains, CompactsFile, RefusedCompactKeeps}
use Rattle.edit.proofs.Laws.Records.{domain_same, record_long, link_in, link_in_lem, relinked_tail, relinked_head, relinked_long, relinked_link}
use Rattle.edit.proofs.Laws.Laying.{laid_length, laid_at, period_same, head_same}
use Rattle.edit.proofs.Laws.Rereading.{takeable_same}

-- a record that is moved is in the file
pub source_in : (s : List ℕ) → 16 ≤ length s → (k : ℕ) → k ≤ length (chain_of s) → source s k < record_count s
source_in s long k h = orderly_inside s (chain_of s) (chain_orderly s) long (source s k) (has_at (0 ∷ chain_of s) k (omega arith))

-- a file that the earlier rule takes
module _ (s : List ℕ) (ok : (read_with_leftovers s).refused ≡ 0) where
  abbrev xs : List ℕ
  xs = chain_of s

  abbrev n : ℕ
  n = length xs

  abbrev t : List ℕ
  t = laid (moved_record s) s

  g : Good s
  g = good s ok

  -- no record is on the chain twice, so there is room for them in front
  room : n < record_count s
  room =
      let m = record_count s in
      let few = apart_few (0 ∷ xs) (replicate m false) (orderly_some s xs (chain_orderly s))
      (λ j h. (subst (λ (x : ℕ). j < x) (sym (length-replicate m false)) (orderly_inside s xs (chain_orderly s) g.whole.long j h), repeat_at m j false)) in
      omega (arith, few, unset_all m)

  front : (k : ℕ) → k ≤ n → moved_record s k ≡ relinked k (next_index n k) (record_at s (source s k))
  unfolding moved_record
  front k h = hit _ _ _ (le-leb k n h)

  behind : (k : ℕ) → n < k → moved_record s k ≡ blank
  unfolding moved_record
  behind k h = miss _ _ _ (lt-leb k n h)

  source_long : (k : ℕ) → k ≤ n → length (record_at s (source s k)) ≡ 16
  source_long k h = record_long s (source s k) (source_in s g.whole.long k h)

  sixteen : (k : ℕ) → k < record_count s → length (moved_record s k) ≡ 16
  sixteen k h = go (leb k n) refl
    where
      go : (b : Bool) → leb k n ≡ b → length (moved_record s k) ≡ 16
      go true e =
          let low = leb-true k n e in
          ap length (front k low) ∙ relinked_long k (next_index n k) (record_at s (source s k)) (source_long k low)
      go false e = ap length (behind k (leb-false k n e))

  long : length t ≡ length s
  long = laid_length s g.whole (moved_record s) sixteen

  count : record_count t ≡ record_count s
  count = ap (λ (m : ℕ). m / 16) long

  at : (k : ℕ) → k ≤ n → record_at t k ≡ relinked k (next_index n k) (record_at s (source s k))
  at k h = laid_at s g.whole (moved_record s) sixteen k (omega (arith, room)) ∙ front k h

  -- record 0
  head_kept : (take 2 (record_at t 0) ≡ take 2 (record_at s 0)) × (drop 4 (record_at t 0) ≡ drop 4 (record_at s 0))
  head_kept =
      let h = relinked_head 0 (next_index n 0) (record_at s 0) (source_long 0 (omega arith)) refl in
      let e = at 0 (omega arith) in
      (ap (take 2) e ∙ h.0, ap (drop 4) e ∙ h.1)

  period : period_in t ≡ period_in s
  period = period_same s t long head_kept.0 head_kept.1

  -- each record names the next
  link_at : (k : ℕ) → k ≤ n → link_of t k ≡ next_index n k
  link_at k h =
      link_in_lem t k ∙ ap (link_in k) (at k h)
      ∙ relinked_link k (next_index n k) (record_at s (source s k)) (source_long k h) (next_small n k (omega (arith, room, g.whole.short)))

  -- and states what the one that was moved there did
  tail_is : (k : ℕ) → k < n → drop 2 (record_at t (suc k)) ≡ drop 2 (record_at s (nth xs k))
  tail_is k h =
      ap (drop 2) (at (suc k) (omega arith)) ∙ relinked_tail (suc k) (next_index n (suc k)) (record_at s (nth xs k)) (λ z. omega arith)

  takes : (k : ℕ) → k < n → Takeable t (suc k)
  takes k h =
      takeable_same s t (nth xs k) (suc k) period (tail_is k h) (λ z. omega arith) (omega (arith, room, count)) ((chain_orderly s).each (nth xs k) (has_at xs k h))

  domains_to_lem : (k : ℕ) → k ≤ n → domains_at t (indices k) ≡ domains_at s (take k xs)
  domains_to_lem zero h = refl
  domains_to_lem (suc k) h =
      map-append (domain_at t) (indices k) (suc k ∷ [])
      ∙ ap₂ (λ (ds : List Domain) (d : Domain). ds ++ (d ∷ [])) (domains_to_lem k (omega arith)) (domain_same (record_at t (suc k)) (record_at s (nth xs k)) (tail_is k (omega arith)))
      ∙ sym (ap (domains_at s) (take-suc xs k 0 (omega arith)) ∙ map-append (domain_at s) (take k xs) (nth xs k ∷ []))

  domains : domains_at t (indices n) ≡ domains_in s
  domains = domains_to_lem n (omega arith) ∙ ap (domains_at s) (take-length xs)

  intact : Intact t (indices n)
  intact =
      record {
        head = head_same s t long head_kept.0 head_kept.1 ∙ g.head;
        leads = leads_on t n link_at;
        orderly =
            orderly_indices t n takes
            (subst Apart (sym (sym (numbers_met t (indices n)) ∙ ap numbers domains ∙ numbers_met s xs)) (chain_orderly s).numbers);
        room = omega (arith, period, ap reserved_of domains, g.sum);
      }

  off : (k : ℕ) → 1 ≤ k → k < record_count t → has k (indices n) ≡ false → zeros (record_at t k) ≡ true
  unfolding each
  off k one h e = go (leb k n) refl
    where
      go : (b : Bool) → leb k n ≡ b → zeros (record_at t k) ≡ true
      go true q = absurd (false≢true (sym e ∙ among n k one (leb-true k n q)))
      go false q = ap zeros (laid_at s g.whole (moved_record s) sixteen k (omega (arith, count)) ∙ behind k (leb-false k n q))

  pub compacted_laid : compacted s ≡ laid (moved_record s) s
  unfolding compacted
  compacted_laid = hit _ _ _ (eq-eqb (read_with_leftovers s).refused 0 ok)

  same_domains_of : domains_in (compacted s) ≡ domains_in s
  same_domains_of = ap domains_in compacted_laid ∙ ap (domains_at t) (intact_chain intact) ∙ domains

  read_after : read_plan t ≡ read_with_leftovers s
  read_after = intact_read intact off ∙ ap₂ (λ (P : ℕ) (ds : List Domain). accepted_reading (plan_of P ds)) period domains ∙ sym g.answer

indices_are : (k : ℕ) → indices k ≡ values_below suc k
unfolding values_below
indices_are zero = refl
indices_are (suc k) = ap (λ (l : List ℕ). l ++ (suc k ∷ [])) (indices_are k)

pub compacts_file : CompactsFile
compacts_file s ok =
    let is = compacted_laid s ok in
    record {
      read = ap read_plan is ∙ read_after s ok;
      chain = ap chain_of is ∙ intact_chain (intact s ok) ∙ indices_are (length (chain_of s));
      long = ap length is ∙ long s ok;
    }

pub refused_compact_keeps : RefusedCompactKeeps
unfolding compacted
refused_compact_keeps s f = miss _ _ _ (ne_eqb (read_with_leftovers s).refused 0 f)

pub same_domains : SameDomains
same_domains s = go (ℕ_discrete (read_with_leftovers s).refused 0)
  where
    go : Dec ((read_with_leftovers s).refused ≡ 0) → domains_in (compacted s) ≡ domains_in s
    go (yes ok) = same_domains_of s ok
    go (no f) = ap domains_in (refused_compact_keeps s f)
