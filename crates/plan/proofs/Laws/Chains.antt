-- The chain of a file as a list: the links lead along it, and its records are in order. Both hold of `chain_of`, whatever
-- the file, and a list of which both hold is `chain_of`.
-- Assumes nothing.
use mathlib.Core.Path.{◌≡◌, refl, sym, ap, subst, ◌∙◌}
use mathlib.Core.Bool.{Bool, true, false, false≢true}
use mathlib.Core.List.{List, [], ◌∷◌, ◌++◌, map, append-nil, map-append}
use mathlib.Core.Logic.{⊎_elim}
use Prim.Native.Nat.{ℕ, zero, suc, ◌≤◌, ◌<◌}
use native.Mathlib.Decide.{ℕ_discrete}
use native.Mathlib.Omega.{arith}
use lib.ListN.{length}
use lib.Seq.{append_snoc}
use Rattle.table.specs.Sums.{nth}
use Rattle.table.specs.Members.{has, last_of}
use Rattle.table.proofs.Flags.{last_none, last_snoc}
use Rattle.table.proofs.Lists.{has_first, has_later, has_either, has_nothing, has_left, has_right, has_side, has_no_image, differ, last_in, Apart, apart_less, apart_mid, apart_front, apart_more}
use Rattle.plan.specs.Records.{record_at, record_count, period_in, domain_at, number_at}
use Rattle.plan.specs.Chain.{unlisted, link_of, link, fault_at, fault, goes_on, walk, chain_of}
use Rattle.plan.proofs.Laws.Holding.{Fine}
use Rattle.plan.proofs.Laws.Links.{Taken, untaken, fault_at_lem, goes, go_on, stop_end, walk_out, walk_stops, walk_goes, walk_keeps, walk_ends}

-- The links of a file lead from record q along a list of records, and the last link is e.
abbrev pub Leads : List ℕ → ℕ → List ℕ → ℕ → Type 0
Leads s q [] e = link_of s q ≡ e
Leads s q (j ∷ js) e = (link_of s q ≡ j) × Leads s j js e

module _ (s : List ℕ) where
  -- the last link; two lists one after the other, joined and parted
  pub lead_end : (q : ℕ) (xs : List ℕ) (e : ℕ) → Leads s q xs e → link_of s (last_of q xs) ≡ e
  unfolding last_of
  lead_end q [] e l = l
  lead_end q (j ∷ js) e l = lead_end j js e l.1

  pub lead_join : (q : ℕ) (xs ys : List ℕ) (d e : ℕ) → Leads s q xs d → Leads s (last_of q xs) ys e → Leads s q (xs ++ ys) e
  unfolding last_of
  lead_join q [] ys d e l m = m
  lead_join q (j ∷ js) ys d e l m = (l.0, lead_join j js ys d e l.1 m)

  pub lead_front : (q : ℕ) (xs ys : List ℕ) (e : ℕ) → Leads s q (xs ++ ys) e → Leads s q xs (link_of s (last_of q xs))
  unfolding last_of
  lead_front q [] ys e l = refl
  lead_front q (j ∷ js) ys e l = (l.0, lead_front j js ys e l.1)

  pub lead_back : (q : ℕ) (xs ys : List ℕ) (e : ℕ) → Leads s q (xs ++ ys) e → Leads s (last_of q xs) ys e
  unfolding last_of
  lead_back q [] ys e l = l
  lead_back q (j ∷ js) ys e l = lead_back j js ys e l.1

  -- the link of a record on the way is the record behind it
  pub lead_at : (q : ℕ) (xs : List ℕ) (e k : ℕ) → Leads s q xs e → k < length xs → link_of s (nth (q ∷ xs) k) ≡ nth xs k
  lead_at q [] e k l h = absurd (omega arith)
  lead_at q (j ∷ js) e zero l h = l.0
  lead_at q (j ∷ js) e (suc k) l h = lead_at j js e k l.1 (omega arith)

-- another file that has the links of s
module _ (s t : List ℕ) where
  -- but for that of the last record
  pub lead_to : (q : ℕ) (xs : List ℕ) (d e : ℕ) → Apart (q ∷ xs) → ((j : ℕ) → has j (q ∷ xs) ≡ true → (j ≡ last_of q xs → ⊥) → link_of t j ≡ link_of s j)
      → link_of t (last_of q xs) ≡ e → Leads s q xs d → Leads t q xs e
  unfolding last_of
  lead_to q [] d e a same end l = end
  lead_to q (j ∷ js) d e a same end l =
      let here : link_of t q ≡ link_of s q =
      same q (has_first q q (j ∷ js) refl) (λ z. differ (last_of j js) q (j ∷ js) (last_in js j) a.0 (sym z)) in
      (here ∙ l.0, lead_to j js d e a.1 (λ i h n. same i (has_later i q (j ∷ js) h) n) end l.1)

  -- from a record on that has the link of another
  pub lead_over : (p q : ℕ) (xs : List ℕ) (e : ℕ) → link_of t q ≡ link_of s p → ((j : ℕ) → has j xs ≡ true → link_of t j ≡ link_of s j)
      → Leads s p xs e → Leads t q xs e
  lead_over p q [] e first same l = first ∙ l
  lead_over p q (j ∷ js) e first same l =
      (first ∙ l.0, lead_over j j js e (same j (has_first j j js refl)) (λ i h. same i (has_later i j js h)) l.1)

-- A record that may be on a chain.
pub record Takeable (s : List ℕ) (j : ℕ) : Type 0 where
  pub some : j ≡ 0 → ⊥
  pub inside : j < record_count s
  pub listed : unlisted (record_at s j) ≡ false
  pub fine : Fine (period_in s) (domain_at s j)

-- Records that may be on one chain: none is there twice, and no domain number is.
pub record Orderly (s xs : List ℕ) : Type 0 where
  pub each : (j : ℕ) → has j xs ≡ true → Takeable s j
  pub apart : Apart xs
  pub numbers : Apart (map (number_at s) xs)

-- record 0 is not among them, and with it they are in the file
pub orderly_some : (s xs : List ℕ) → Orderly s xs → Apart (0 ∷ xs)
orderly_some s xs z = (go (has 0 xs) refl, z.apart)
  where
    go : (b : Bool) → has 0 xs ≡ b → has 0 xs ≡ false
    go true e = absurd ((z.each 0 e).some refl)
    go false e = e

pub orderly_inside : (s xs : List ℕ) → Orderly s xs → 16 ≤ length s → (j : ℕ) → has j (0 ∷ xs) ≡ true → j < record_count s
orderly_inside s xs z long j h = ⊎_elim (λ (e : j ≡ 0). omega arith) (λ (e : has j xs ≡ true). (z.each j e).inside) (has_either j 0 xs h)

-- none, one record more, one fewer, and the first of them
pub orderly_none : (s : List ℕ) → Orderly s []
orderly_none s = record { each = λ j h. has_nothing j h; apart = tt; numbers = tt }

pub orderly_more : (s xs : List ℕ) (i : ℕ) → Orderly s xs → Takeable s i → has i xs ≡ false → has (number_at s i) (map (number_at s) xs) ≡ false
    → Orderly s (xs ++ (i ∷ []))
orderly_more s xs i z y new unmet =
    record {
      each = λ j h.
          ⊎_elim (λ (m : has j xs ≡ true). z.each j m)
          (λ (m : has j (i ∷ []) ≡ true). ⊎_elim (λ (q : j ≡ i). subst (Takeable s) (sym q) y) (λ (n : has j [] ≡ true). has_nothing j n) (has_either j i [] m))
          (has_side j xs (i ∷ []) h);
      apart = apart_more xs i z.apart new;
      numbers = subst Apart (sym (map-append (number_at s) xs (i ∷ []))) (apart_more (map (number_at s) xs) (number_at s i) z.numbers unmet);
    }

pub orderly_less : (s xs : List ℕ) (i : ℕ) (ys : List ℕ) → Orderly s (xs ++ (i ∷ ys)) → Orderly s (xs ++ ys)
orderly_less s xs i ys z =
    record {
      each = λ j h.
          z.each j (⊎_elim (λ (m : has j xs ≡ true). has_left j xs (i ∷ ys) m) (λ (m : has j ys ≡ true). has_right j xs (i ∷ ys) (has_later j i ys m)) (has_side j xs ys h));
      apart = apart_less xs i ys z.apart;
      numbers =
          subst Apart (sym (map-append (number_at s) xs ys))
          (apart_less (map (number_at s) xs) (number_at s i) (map (number_at s) ys) (subst Apart (map-append (number_at s) xs (i ∷ ys)) z.numbers));
    }

pub orderly_front : (s xs ys : List ℕ) → Orderly s (xs ++ ys) → Orderly s xs
orderly_front s xs ys z =
    record {
      each = λ j h. z.each j (has_left j xs ys h);
      apart = apart_front xs ys z.apart;
      numbers = apart_front (map (number_at s) xs) (map (number_at s) ys) (subst Apart (map-append (number_at s) xs ys) z.numbers);
    }

-- no domain of theirs has number 0
pub orderly_low : (s xs : List ℕ) → Orderly s xs → has 0 (map (number_at s) xs) ≡ false
orderly_low s xs z = has_no_image 0 (number_at s) xs (λ j h e. omega (arith, (z.each j h).fine.low))

module _ (s : List ℕ) where
  -- what is known of the records taken so far is kept by taking one more
  abbrev Known : List ℕ → Type 0
  Known chain = Leads s 0 chain (link s chain) × Orderly s chain

  one_more_lem : (chain : List ℕ) → goes_on s chain ≡ true → Known chain → Known (chain ++ (link s chain ∷ []))
  one_more_lem chain e k =
      let g = goes s chain e in
      let i = link s chain in
      let t = g.1 in (
        lead_join s 0 chain (i ∷ []) i (link s (chain ++ (i ∷ []))) k.0 (refl, ap (link_of s) (sym (last_snoc 0 chain i))),
        orderly_more s chain i k.1 (record { some = g.0; inside = t.inside; listed = t.listed; fine = t.fine }) t.new t.unmet,
      )

  known : Known (chain_of s)
  unfolding chain_of
  known = walk_keeps s Known one_more_lem 64 [] (ap (link_of s) (sym (last_none 0)), orderly_none s)

  pub chain_leads : Leads s 0 (chain_of s) (link s (chain_of s))
  chain_leads = known.0

  pub chain_orderly : Orderly s (chain_of s)
  chain_orderly = known.1

  -- the walk goes along a list along which the links lead, to its end
  along : (rest pre : List ℕ) (n : ℕ) → Leads s (last_of 0 pre) rest 0 → ((j : ℕ) → has j rest ≡ true → Takeable s j) → Apart (pre ++ rest)
      → Apart (map (number_at s) (pre ++ rest)) → goes_on s (walk n s pre) ≡ false → walk n s pre ≡ pre ++ rest
  along [] pre n l each a b stop = walk_stops s pre (stop_end s pre l) n ∙ sym (append-nil pre)
  along (j ∷ js) pre n l each a b stop = go n stop (along js (pre ++ (j ∷ [])))
    where
      z : Takeable s j
      z = each j (has_first j j js refl)

      took : Taken s pre j
      took =
          record {
            inside = z.inside;
            new = (apart_mid pre j js a).0;
            unmet = (apart_mid (map (number_at s) pre) (number_at s j) (map (number_at s) js) (subst Apart (map-append (number_at s) pre (j ∷ js)) b)).0;
            listed = z.listed;
            fine = z.fine;
          }

      on : goes_on s pre ≡ true
      on = go_on s pre (λ e. z.some (sym l.0 ∙ e)) (ap (fault_at s pre) l.0 ∙ untaken s pre j took)

      move : pre ++ (j ∷ []) ++ js ≡ pre ++ (j ∷ js)
      move = append_snoc pre j js

      go : (n : ℕ) → goes_on s (walk n s pre) ≡ false
          → ((m : ℕ) → Leads s (last_of 0 (pre ++ (j ∷ []))) js 0 → ((i : ℕ) → has i js ≡ true → Takeable s i) → Apart (pre ++ (j ∷ []) ++ js)
          → Apart (map (number_at s) (pre ++ (j ∷ []) ++ js)) → goes_on s (walk m s (pre ++ (j ∷ []))) ≡ false → walk m s (pre ++ (j ∷ [])) ≡ pre ++ (j ∷ []) ++ js)
          → walk n s pre ≡ pre ++ (j ∷ js)
      go zero end ih = absurd (false≢true (sym end ∙ ap (goes_on s) (walk_out s pre) ∙ on))
      go (suc m) end ih =
          let step : walk (suc m) s pre ≡ walk m s (pre ++ (j ∷ [])) = walk_goes s pre on m ∙ ap (λ (i : ℕ). walk m s (pre ++ (i ∷ []))) l.0 in
          step
          ∙ ih m (subst (λ (i : ℕ). Leads s i js 0) (sym (last_snoc 0 pre j)) l.1) (λ i h. each i (has_later i j js h)) (subst Apart (sym move) a)
          (subst (λ (xs : List ℕ). Apart (map (number_at s) xs)) (sym move) b) (ap (goes_on s) (sym step) ∙ end)
          ∙ move

  -- records in order, along which the links lead to 0, are the chain
  pub chain_is : (xs : List ℕ) → length s ≤ 1024 → Leads s 0 xs 0 → Orderly s xs → chain_of s ≡ xs
  unfolding chain_of
  chain_is xs short l z =
      along xs [] 64 (subst (λ (q : ℕ). Leads s q xs 0) (sym (last_none 0)) l) z.each z.apart z.numbers (walk_ends s short)

  -- the chain of a file that draws no refusal ends with 0
  pub chain_ends : length s ≤ 1024 → fault s (chain_of s) ≡ 0 → link s (chain_of s) ≡ 0
  chain_ends short e = go (ℕ_discrete (link s (chain_of s)) 0)
    where
      go : Dec (link s (chain_of s) ≡ 0) → link s (chain_of s) ≡ 0
      go (yes z) = z
      go (no n) = absurd (false≢true (sym (walk_ends s short) ∙ go_on s (chain_of s) n (sym (fault_at_lem s (chain_of s) n) ∙ e)))
