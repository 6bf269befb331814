-- Laws of the chain held as an array: how it is listed, its entries, and what is found in it.
-- Assumes nothing.
use mathlib.Core.Path.{◌≡◌, refl, sym, ap, ap₂, subst, ◌∙◌}
use mathlib.Core.Bool.{◌||◌}
use mathlib.Core.List.{List, [], ◌∷◌, ◌++◌}
use Prim.Native.Nat.{ℕ, ◌+◌, ◌-◌, ◌≤◌, ◌<◌}
use native.Mathlib.Numerals.{add-one}
use native.Mathlib.Decide.{ℕ_discrete}
use native.Mathlib.Omega.{arith}
use lib.ListN.{length, take, set, replicate, length-set, get_or-append}
use lib.Seq.{take-suc, take-suc-set, take_all, get_or-take, length-take-le}
use borrow.Author.Tests.{eq-eqb, ne_eqb}
use Rattle.std.specs.List.{list_any}
use lib.Dec.{eqb}
use Rattle.table.specs.Sums.{nth}
use Rattle.table.specs.Members.{has, last_of}
use Rattle.table.specs.Lines.{first_of}
use Rattle.table.proofs.Tables.{hit}
use Rattle.table.proofs.Lists.{last_take, map_at}
use Rattle.plan.specs.Value.{reserved_of}
use Rattle.plan.specs.Records.{record_count, number_at}
use Rattle.plan.specs.Chain.{link_of, link, chain_of, domains_in, sums_in}
use Rattle.plan.specs.Reading.{head_table}
use Rattle.plan.specs.Sums.{sums_told}
use Rattle.plan.specs.declared.chain.Sums.{Sums}
use Rattle.plan.proofs.Laws.Chains.{lead_at, chain_leads}
use Rattle.plan.proofs.Laws.Telling.{sums_are_plain, at_most_sixteen}
use Rattle.edit.specs.Dropping.{numbers_in}
use Rattle.edit.specs.Inner.{Lists}
use Rattle.edit.proofs.Laws.Compaction.{source_in}

-- the walk tells as many sums as the chain has records
pub told_count : (s : List ℕ) → first_of (head_table s) 0 ≡ 0 → (sums_told s).records ≡ length (chain_of s)
unfolding sums_told
told_count s e = ap (λ (t : Sums). t.records) (hit _ _ _ (eq-eqb (first_of (head_table s) 0) 0 e)) ∙ (sums_are_plain s).one

-- and the sum told after the first n of them is what their domains reserve
pub told_sum : (s : List ℕ) (n : ℕ) → first_of (head_table s) 0 ≡ 0 → 1 ≤ n → n ≤ length (chain_of s)
    → nth (sums_told s).told (n - 1) ≡ reserved_of (take n (domains_in s))
unfolding sums_told
told_sum s n e low high =
    let held : List ℕ = sums_in s in
    ap (λ (t : Sums). nth t.told (n - 1)) (hit _ _ _ (eq-eqb (first_of (head_table s) 0) 0 e))
    ∙ get_or-append held (replicate (16 - length held) 0) 0 (n - 1) (omega (arith, (sums_are_plain s).one))
    ∙ (sums_are_plain s).each n low high

-- record 0 and the first k records of the chain are listed
pub record Listing (s records : List ℕ) (k : ℕ) : Type 0 where
  pub within : k ≤ length (chain_of s)
  pub front : take (k + 1) records ≡ take (k + 1) (0 ∷ chain_of s)
  pub long : length records ≡ 17

module _ {s records : List ℕ} {k : ℕ} (v : Listing s records k) where
  pub listing_at : nth records k ≡ nth (0 ∷ chain_of s) k
  listing_at =
      sym (get_or-take (k + 1) records k 0 (omega arith)) ∙ ap (λ (l : List ℕ). nth l k) v.front ∙ get_or-take (k + 1) (0 ∷ chain_of s) k 0 (omega arith)

  -- the record that its link names is listed behind it
  pub listing_more : (l : ℕ) → l ≡ link_of s (nth records k) → k < length (chain_of s) → Listing s (set records (k + 1) l) (k + 1)
  listing_more l e h =
      let next : l ≡ nth (0 ∷ chain_of s) (k + 1) =
      e ∙ ap (link_of s) listing_at ∙ lead_at s 0 (chain_of s) (link s (chain_of s)) k (chain_leads s) h ∙ ap (nth (0 ∷ chain_of s)) (sym (add-one k)) in
      record {
        within = omega arith;
        front =
            ap (λ (n : ℕ). take n (set records (k + 1) l)) (add-one (k + 1))
            ∙ take-suc-set records (k + 1) l (omega (arith, v.long, at_most_sixteen s))
            ∙ ap₂ (λ (xs : List ℕ) (x : ℕ). xs ++ (x ∷ [])) v.front next
            ∙ sym (ap (λ (n : ℕ). take n (0 ∷ chain_of s)) (add-one (k + 1)) ∙ take-suc (0 ∷ chain_of s) (k + 1) 0 (omega arith));
        long = length-set records (k + 1) l ∙ v.long;
      }

  pub listing_all : (count : ℕ) → count ≡ k → Lists (take count (chain_of s)) count records
  listing_all count e =
      record {
        front = ap (λ (n : ℕ). take (n + 1) records) e ∙ v.front ∙ ap (λ (n : ℕ). take n (0 ∷ chain_of s)) (add-one k) ∙ ap (λ (n : ℕ). 0 ∷ take n (chain_of s)) (sym e);
        counted = sym (length-take-le count (chain_of s) (omega (arith, v.within)));
      }

-- all records of the chain
pub lists_chain : (s : List ℕ) (n count : ℕ) (records : List ℕ) → n ≡ length (chain_of s) → Lists (take n (chain_of s)) count records → Lists (chain_of s) count records
lists_chain s n count records e = subst (λ (xs : List ℕ). Lists xs count records) (take_all n (chain_of s) (omega arith))

-- entry k of a list, and the last
module _ (xs : List ℕ) (count : ℕ) (records : List ℕ) (v : Lists xs count records) where
  pub entry : (k : ℕ) → k ≤ count → nth records k ≡ nth (0 ∷ xs) k
  entry k h = sym (get_or-take (count + 1) records k 0 (omega arith)) ∙ ap (λ (l : List ℕ). nth l k) v.front

  pub entry_last : nth records count ≡ last_of 0 xs
  entry_last =
      entry count (omega arith) ∙ sym (last_take xs 0 count (omega (arith, v.counted))) ∙ ap (last_of 0) (take_all count xs (omega (arith, v.counted)))

module _ (s : List ℕ) (count : ℕ) (records : List ℕ) (v : Lists (chain_of s) count records) where
  -- the record of an entry is in the file
  pub entry_in : 16 ≤ length s → (k : ℕ) → k ≤ count → nth records k < record_count s
  entry_in long k h = subst (λ (i : ℕ). i < record_count s) (sym (entry (chain_of s) count records v k h)) (source_in s long k (omega (arith, v.counted)))

  -- the domain number of the entry behind the first k + 1
  pub entry_number : (k : ℕ) → k < count → number_at s (nth records (k + 1)) ≡ nth (numbers_in s) k
  entry_number k h =
      ap (number_at s) (entry (chain_of s) count records v (k + 1) (omega arith) ∙ ap (nth (0 ∷ chain_of s)) (add-one k))
      ∙ sym (map_at (number_at s) (chain_of s) k (omega (arith, v.counted)))

-- the search for a domain along the chain: it is none of the first k
abbrev pub Passed : List ℕ → ℕ → ℕ → Type 0
Passed s n k = (i : ℕ) → i < k → nth (numbers_in s) i ≡ n → ⊥

pub pass_on : (s : List ℕ) (n k : ℕ) → Passed s n k → (nth (numbers_in s) k ≡ n → ⊥) → Passed s n (k + 1)
pass_on s n k v f i h e = go (ℕ_discrete i k)
  where
    go : Dec (i ≡ k) → ⊥
    go (yes q) = f (ap (nth (numbers_in s)) (sym q) ∙ e)
    go (no q) = v i (omega arith) e

-- a list has a number where some element of it is that number
pub any_has : (k : ℕ) (xs : List ℕ) → list_any (λ x. eqb x k) xs ≡ has k xs
unfolding has
any_has k [] = refl
any_has k (x ∷ xs) = ap₂ ◌||◌ (turned (ℕ_discrete x k)) (any_has k xs)
  where
    turned : Dec (x ≡ k) → eqb x k ≡ eqb k x
    turned (yes q) = eq-eqb x k q ∙ sym (eq-eqb k x (sym q))
    turned (no q) = ne_eqb x k q ∙ sym (ne_eqb k x (λ e. q (sym e)))
