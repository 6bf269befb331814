-- The writes of dropping, adding and rescuing, what adding checks of the plan that was read, and the records that compaction gathers.
-- Assumes nothing.
use mathlib.Core.Path.{◌≡◌, refl, sym, ap, ap₂, ◌∙◌}
use mathlib.Core.Bool.{Bool, true, false, cond, not, ◌&&◌}
use mathlib.Core.List.{List, ◌∷◌}
use Prim.Native.Nat.{ℕ, zero, suc, ◌+◌, ◌-◌, ◌*◌, ◌≤◌, ◌<◌}
use native.Mathlib.Nat.{zero-add}
use native.Mathlib.Decide.{ℕ_discrete}
use native.Mathlib.Omega.{arith}
use native.Mathlib.Numerals.{add-one}
use lib.ListN.{length, get_or, drop, length-map}
use lib.Dec.{leb, ltb}
use borrow.Author.Tests.{leb-true, le-leb, lt-leb}
use Rattle.table.specs.Sums.{nth}
use Rattle.table.specs.Members.{has, last_of, place_in}
use Rattle.table.specs.Ranges.{highest}
use Rattle.table.specs.Lines.{first_of}
use Rattle.table.proofs.Lists.{has_first, has_other, place_some}
use Rattle.plan.specs.Value.{reserved, reserved_of, plan_of}
use Rattle.plan.specs.Records.{record_at, record_count, period_in, number_at, domain_record}
use Rattle.plan.specs.Chain.{no_number, link_of, chain_of, domains_in}
use Rattle.plan.specs.Writing.{next_index}
use Rattle.plan.specs.declared.value.Domain.{Domain}
use Rattle.plan.specs.declared.value.Plan.{Plan}
use Rattle.plan.proofs.Laws.Heads.{Whole}
use Rattle.plan.proofs.Laws.Values.{within}
use Rattle.plan.proofs.Laws.Holding.{Holds}
use Rattle.plan.proofs.Laws.Links.{numbers_met}
use Rattle.plan.proofs.Laws.Reading.{chain_held}
use Rattle.plan.proofs.Laws.Filing.{Filled, filled_all, records_at}
use Rattle.edit.specs.Laying.{laid, blank, relinked, with_link, rewritten}
use Rattle.edit.specs.Dropping.{numbers_in, holder, namer, dropped_record}
use Rattle.edit.specs.Adding.{free, new_record, last_record, added_record, domain_table, domain_refusal}
use Rattle.edit.specs.Compaction.{source, moved_record}
use Rattle.edit.specs.Rescue.{kept_records, rescued_record}
use Rattle.edit.specs.Inner.{Lists, unlisted_in, listed_only, Gathers}
use Rattle.edit.proofs.Laws.Records.{record_long}
use Rattle.edit.proofs.Laws.Laying.{laid_agree}
use Rattle.edit.proofs.Laws.Compaction.{source_in}
use Rattle.edit.proofs.Laws.Storing.{then_laid}
use Rattle.edit.proofs.Laws.Listing.{entry, entry_last}

-- a file whose chain is listed
module _ (s : List ℕ) (count : ℕ) (records : List ℕ) (v : Lists (chain_of s) count records) where
  -- a domain is on the chain where its place is below the count
  pub found : (n p : ℕ) → p ≡ place_in n (numbers_in s) → ltb p count ≡ has n (numbers_in s)
  found n p is = ap₂ ltb is (v.counted ∙ sym (length-map (chain_of s) (number_at s))) ∙ place_some n (numbers_in s)

  -- where domain n is on the chain, two entries are its record and the one that names it; the writes to them are the dropping
  module _ (n p : ℕ) (is : p ≡ place_in n (numbers_in s)) (h : p < count) where
    pub names_it : nth records p ≡ namer s n
    names_it = entry (chain_of s) count records v p (omega arith) ∙ ap (nth (0 ∷ chain_of s)) is

    pub holds_it : nth records (p + 1) ≡ holder s n
    holds_it = entry (chain_of s) count records v (p + 1) (omega arith) ∙ ap (nth (0 ∷ chain_of s)) (add-one p) ∙ ap (nth (chain_of s)) is

    pub drop_writes : (l : ℕ) → l ≡ link_of s (nth records (p + 1))
        → laid (rewritten s (nth records p) l (nth records (p + 1)) blank) s ≡ laid (dropped_record s n) s
    drop_writes l e =
        ap₂ (λ (x y : ℕ). laid (rewritten s x y (nth records (p + 1)) blank) s) names_it (e ∙ ap (link_of s) holds_it)
        ∙ ap (λ (x : ℕ). laid (rewritten s (namer s n) (link_of s (holder s n)) x blank) s) holds_it

  -- what is not listed is free, and so the highest is the new record
  unlisted_free : (k : ℕ) → unlisted_in count records k ≡ free s k
  unfolding unlisted_in free
  unlisted_free k = ap (λ (l : List ℕ). not (has k l)) v.front ∙ go (ℕ_discrete k 0)
    where
      go : Dec (k ≡ 0) → not (has k (0 ∷ chain_of s)) ≡ (leb 1 k && not (has k (chain_of s)))
      go (yes z) = ap not (has_first k 0 (chain_of s) z) ∙ sym (ap (λ (x : Bool). x && not (has k (chain_of s))) (lt-leb 1 k (omega arith)))
      go (no n) = ap not (has_other k 0 (chain_of s) n) ∙ sym (ap (λ (x : Bool). x && not (has k (chain_of s))) (le-leb 1 k (omega arith)))

  same_highest : (f g : ℕ → Bool) (m : ℕ) → ((k : ℕ) → f k ≡ g k) → highest f m ≡ highest g m
  unfolding highest
  same_highest f g zero h = refl
  same_highest f g (suc m) h = ap₂ (λ (b : Bool) (x : ℕ). cond b m x) (h m) (same_highest f g m h)

  pub new_is : highest (unlisted_in count records) (record_count s) ≡ new_record s
  new_is = same_highest (unlisted_in count records) (free s) (record_count s) unlisted_free

  -- the two writes are the adding
  pub add_writes : (d : Domain) (k : ℕ) (b : List ℕ) → k ≡ new_record s → b ≡ domain_record 0 d
      → laid (rewritten s (nth records count) k k b) s ≡ laid (added_record s d) s
  add_writes d k b e is =
      ap₂ (λ (x : ℕ) (l : List ℕ). laid (rewritten s x k k l) s) (entry_last (chain_of s) count records v) is
      ∙ ap (λ (y : ℕ). laid (rewritten s (last_record s) y y (domain_record 0 d)) s) e

  -- the records of the listed chain, gathered
  pub gathers : 16 ≤ length s → (b store : List ℕ) (k : ℕ) → Filled (λ (j : ℕ). record_at s (source s j)) b store k → k ≡ count + 1 → Gathers s count store
  gathers long b store k w e =
      let f : ℕ → List ℕ = λ j. record_at s (source s j) in
      record {
        counted = v.counted;
        at = λ j h.
            ap (λ (l : List ℕ). record_at l j) (filled_all f b store k w)
            ∙ records_at f k 0 j (drop (16 * k) b) (λ i l. record_long s (source s i) (source_in s long i (omega (arith, v.counted)))) (omega arith)
            ∙ ap f (zero-add j);
      }

-- what a record becomes, from those that were gathered
pub moved_is : (s : List ℕ) (n : ℕ) (store : List ℕ) → Gathers s n store → (k : ℕ)
    → cond (leb k n) (relinked k (next_index n k) (record_at store k)) blank ≡ moved_record s k
unfolding moved_record
moved_is s n store v k =
    go (leb k n) refl ∙ ap (λ (m : ℕ). cond (leb k m) (relinked k (next_index m k) (record_at s (source s k))) blank) v.counted
  where
    go : (b : Bool) → leb k n ≡ b
        → cond b (relinked k (next_index n k) (record_at store k)) blank ≡ cond b (relinked k (next_index n k) (record_at s (source s k))) blank
    go true e = ap (relinked k (next_index n k)) (v.at k (leb-true k n e))
    go false e = refl

-- the checks of the plan that was read are those of the file
pub checks_are : (s : List ℕ) (p : Plan) → p ≡ plan_of (period_in s) (domains_in s) → (d : Domain)
    → first_of (domain_table p.period (get_or p.planned (d.number - 1) false) (reserved p) d) 0 ≡ domain_refusal s d
unfolding domain_refusal
checks_are s p e d =
    ap (λ (q : Plan). first_of (domain_table q.period (get_or q.planned (d.number - 1) false) (reserved q) d) 0) e
    ∙ ap₂ (λ (P t : ℕ). first_of (domain_table P (get_or held.planned (d.number - 1) false) t d) 0) h.period h.total
    ∙ go (no_number d.number) refl
  where
    held : Plan
    held = plan_of (period_in s) (domains_in s)

    h : Holds (period_in s) (domains_in s) held
    h = chain_held s

    met : 1 ≤ d.number → get_or held.planned (d.number - 1) false ≡ has d.number (numbers_in s)
    met one = let up : d.number - 1 + 1 ≡ d.number = omega arith in h.met (d.number - 1) ∙ ap₂ has up (numbers_met s (chain_of s))

    go : (b : Bool) → no_number d.number ≡ b
        → first_of (domain_table (period_in s) (get_or held.planned (d.number - 1) false) (reserved_of (domains_in s)) d) 0
        ≡ first_of (domain_table (period_in s) (has d.number (numbers_in s)) (reserved_of (domains_in s)) d) 0
    go true q = rw q
    go false q = ap (λ (m : Bool). first_of (domain_table (period_in s) m (reserved_of (domains_in s)) d) 0) (met (within 16 d.number q).0)

-- the link that is set and the records that are zeroed are the rescue
pub rescue_writes : (s : List ℕ) (count : ℕ) (records : List ℕ) → Whole (length s) → Lists (kept_records s) count records → (q : ℕ) → q ≡ last_of 0 (kept_records s)
    → (let t = laid (with_link s q 0) s in laid (listed_only t count records) t ≡ laid (rescued_record s) s)
unfolding listed_only unlisted_in rescued_record
rescue_writes s count records whole v q e =
    then_laid s q 0 whole (unlisted_in count records) blank
    ∙ laid_agree s whole (λ (k : ℕ). cond (unlisted_in count records k) blank (with_link s q 0 k)) (rescued_record s)
    (λ k h. ap₂ (λ (l : List ℕ) (i : ℕ). cond (not (has k l)) blank (with_link s i 0 k)) v.front e ∙ go k (has k (0 ∷ kept_records s)))
  where
    go : (k : ℕ) (b : Bool) → cond (not b) blank (with_link s (last_of 0 (kept_records s)) 0 k) ≡ cond b (with_link s (last_of 0 (kept_records s)) 0 k) blank
    go k true = refl
    go k false = refl
