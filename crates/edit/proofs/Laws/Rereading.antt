-- What a file laid anew keeps of the file that it was: record 0 and the records of a list, but for one link.
-- Assumes nothing.
use mathlib.Core.Path.{◌≡◌, refl, sym, ap, subst, ◌∙◌}
use mathlib.Core.Bool.{true, false}
use mathlib.Core.List.{List, ◌∷◌, map}
use Prim.Native.Nat.{ℕ, ◌/◌, ◌<◌}
use native.Mathlib.Omega.{arith}
use lib.ListN.{length, take, drop}
use Rattle.table.specs.Members.{has}
use Rattle.table.specs.Lines.{first_of}
use Rattle.table.proofs.Lists.{has_first, has_later, differ, map_same, Apart}
use Rattle.plan.specs.Records.{record_at, record_count, period_in, domain_at, number_at}
use Rattle.plan.specs.Chain.{link_of, domains_at}
use Rattle.plan.specs.Reading.{head_table}
use Rattle.plan.specs.declared.value.Domain.{Domain}
use Rattle.plan.proofs.Laws.Heads.{Whole}
use Rattle.plan.proofs.Laws.Holding.{Fine}
use Rattle.plan.proofs.Laws.Reading.{head_whole}
use Rattle.plan.proofs.Laws.Chains.{Takeable, Orderly, orderly_inside}
use Rattle.edit.specs.Laying.{laid, with_link, rewritten, OnlyTwo}
use Rattle.edit.proofs.Laws.Records.{domain_same, unlisted_same}
use Rattle.edit.proofs.Laws.Laying.{laid_length, laid_at, period_same, head_same, with_tail, with_head, rewritten_other, rewritten_same, rewritten_long, link_kept, link_set}

-- a record that states the same in another file of the same period
pub takeable_same : (s t : List ℕ) (i j : ℕ) → period_in t ≡ period_in s → drop 2 (record_at t j) ≡ drop 2 (record_at s i) → (j ≡ 0 → ⊥)
    → j < record_count t → Takeable s i → Takeable t j
takeable_same s t i j period tail some inside z =
    record {
      some = some;
      inside = inside;
      listed = unlisted_same (record_at t j) (record_at s i) tail ∙ z.listed;
      fine = subst (λ (P : ℕ). Fine P (domain_at t j)) (sym period) (subst (Fine (period_in s)) (sym (domain_same (record_at t j) (record_at s i) tail)) z.fine);
    }

-- A file laid anew in which record 0 and the records of xs are kept, but for the link of record q, which is l.
pub record Keeping (s : List ℕ) (f : ℕ → List ℕ) (q l : ℕ) (xs : List ℕ) : Type 0 where
  pub head : first_of (head_table s) 0 ≡ 0
  pub sixteen : (k : ℕ) → k < record_count s → length (f k) ≡ 16
  pub keeps : (k : ℕ) → has k (0 ∷ xs) ≡ true → f k ≡ with_link s q l k
  pub orderly : Orderly s xs

module _ {s : List ℕ} {f : ℕ → List ℕ} {q l : ℕ} {xs : List ℕ} (v : Keeping s f q l xs) where
  abbrev t : List ℕ
  t = laid f s

  whole : Whole (length s)
  whole = head_whole s v.head

  pub kept_length : length t ≡ length s
  kept_length = laid_length s whole f v.sixteen

  pub kept_count_lem : record_count t ≡ record_count s
  kept_count_lem = ap (λ (n : ℕ). n / 16) kept_length

  pub laid_to : (k : ℕ) → k < record_count s → record_at t k ≡ f k
  laid_to = laid_at s whole f v.sixteen

  kept_at : (k : ℕ) → k < record_count s → has k (0 ∷ xs) ≡ true → record_at t k ≡ with_link s q l k
  kept_at k inside h = laid_to k inside ∙ v.keeps k h

  first : 0 < record_count s
  first = omega (arith, whole.long)

  head_kept : (take 2 (record_at t 0) ≡ take 2 (record_at s 0)) × (drop 4 (record_at t 0) ≡ drop 4 (record_at s 0))
  head_kept =
      let e = kept_at 0 first (has_first 0 0 xs refl) in
      let h = with_head s q l 0 first refl in
      (ap (take 2) e ∙ h.0, ap (drop 4) e ∙ h.1)

  pub kept_period : period_in t ≡ period_in s
  kept_period = period_same s t kept_length head_kept.0 head_kept.1

  pub kept_head : first_of (head_table t) 0 ≡ 0
  kept_head = head_same s t kept_length head_kept.0 head_kept.1 ∙ v.head

  module _ (j : ℕ) (on : has j xs ≡ true) where
    tail_kept : drop 2 (record_at t j) ≡ drop 2 (record_at s j)
    tail_kept = let y = v.orderly.each j on in ap (drop 2) (kept_at j y.inside (has_later j 0 xs on)) ∙ with_tail s q l j y.some

    domain_kept : domain_at t j ≡ domain_at s j
    domain_kept = domain_same (record_at t j) (record_at s j) tail_kept

    takes_kept : Takeable t j
    takes_kept = let y = v.orderly.each j on in takeable_same s t j j kept_period tail_kept y.some (subst (λ (n : ℕ). j < n) (sym kept_count_lem) y.inside) y

  pub kept_domains : domains_at t xs ≡ domains_at s xs
  kept_domains = map_same (domain_at t) (domain_at s) xs domain_kept

  pub kept_numbers : map (number_at t) xs ≡ map (number_at s) xs
  kept_numbers = map_same (number_at t) (number_at s) xs (λ j on. ap (λ (d : Domain). d.number) (domain_kept j on))

  pub kept_orderly : Orderly t xs
  kept_orderly =
      record {
        each = takes_kept;
        apart = v.orderly.apart;
        numbers = subst Apart (sym kept_numbers) v.orderly.numbers;
      }

  -- the links: that of record q, and every other
  inside_of : (j : ℕ) → has j (0 ∷ xs) ≡ true → j < record_count s
  inside_of = orderly_inside s xs v.orderly whole.long

  pub kept_link : (j : ℕ) → has j (0 ∷ xs) ≡ true → (j ≡ q → ⊥) → link_of t j ≡ link_of s j
  kept_link j h n = link_kept s q l t j (kept_at j (inside_of j h) h) n

  pub new_link : (j : ℕ) → has j (0 ∷ xs) ≡ true → j ≡ q → l < 65536 → link_of t j ≡ l
  new_link j h e small = link_set s q l t j (kept_at j (inside_of j h) h) e (inside_of j h) small

-- where record i, which is neither record 0 nor one of xs, is replaced and one link is set
module _ (s : List ℕ) (q l i : ℕ) (b xs : List ℕ) (head : first_of (head_table s) 0 ≡ 0) (long : length b ≡ 16) where
  pub rewrites : has i (0 ∷ xs) ≡ false → Orderly s xs → Keeping s (rewritten s q l i b) q l xs
  rewrites off orderly =
      record {
        head = head;
        sixteen = λ k h. rewritten_long s q l i b k long h;
        keeps = λ k h. rewritten_other s q l i b k (differ k i (0 ∷ xs) h off);
        orderly = orderly;
      }

  pub only_two : OnlyTwo s (laid (rewritten s q l i b) s) i q
  only_two =
      let w = head_whole s head in
      let sixteen : (k : ℕ) → k < record_count s → length (rewritten s q l i b k) ≡ 16 = λ k h. rewritten_long s q l i b k long h in
      record {
        long = laid_length s w (rewritten s q l i b) sixteen;
        others = λ k h n m. laid_at s w (rewritten s q l i b) sixteen k h ∙ rewritten_same s q l i b k n m;
      }
