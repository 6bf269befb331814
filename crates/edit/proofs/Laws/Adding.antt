-- The claims of document 02, Point 4 on adding, and what adding answers line by line.
-- Assumes nothing.
use mathlib.Core.Path.{◌≡◌, refl, sym, ap, ap₂, subst, ◌∙◌}
use mathlib.Core.Bool.{Bool, true, false, not}
use mathlib.Core.List.{List, [], ◌∷◌, ◌++◌, map, map-append}
use Prim.Native.Nat.{ℕ, ◌+◌, ◌≤◌, ◌<◌}
use native.Mathlib.Omega.{arith}
use lib.Dec.{eqb, leb}
use borrow.Author.Tests.{eqb-true, eq-eqb, ne_eqb, leb-true, ltb-false, not-true, not-false}
use Rattle.table.specs.Sums.{sum}
use Rattle.table.specs.Members.{has}
use Rattle.table.specs.Ranges.{some_below}
use Rattle.table.proofs.Tables.{miss, hit, neg, neg', and_both, clear, tells_itself}
use Rattle.table.proofs.Elements.{sum_snoc}
use Rattle.table.proofs.Searches.{highest_is, highest_none}
use Rattle.table.proofs.Lists.{has_not, not_has, has_neither, differ, last_in}
use Rattle.plan.specs.Value.{no_domains, with_domain, plan_of, reserves, reserved_of, refusal, Refusal}
use Rattle.plan.specs.Records.{zeros, record_at, record_count, period_in, next_in, domain_in, domain_at, number_at, domain_record}
use Rattle.plan.specs.Chain.{unlisted, link_of, link, chain_of, domains_at, domains_in}
use Rattle.plan.specs.Reading.{accepted_reading, read_plan, Reading}
use Rattle.plan.specs.declared.value.Domain.{Domain}
use Rattle.plan.proofs.Laws.Values.{within}
use Rattle.plan.proofs.Laws.Holding.{Fine, with_snoc}
use Rattle.plan.proofs.Laws.Links.{link_of_lem}
use Rattle.plan.proofs.Laws.Chains.{lead_to, lead_join, Takeable, orderly_some, orderly_more, chain_leads, chain_orderly}
use Rattle.plan.proofs.Laws.Reading.{Good, good}
use Rattle.plan.proofs.Laws.Leftovers.{Tidy, tidy}
use Rattle.plan.proofs.Laws.Intact.{Intact, intact_chain, intact_read}
use Rattle.plan.proofs.Laws.RoundTrip.{record_listed, domain_back}
use Rattle.edit.specs.Laying.{laid, OnlyTwo}
use Rattle.edit.specs.Dropping.{numbers_in}
use Rattle.edit.specs.Adding.{free, new_record, last_record, added_record, domain_table, domain_refusal, add_table, add_refusal, added, AddsDomain, RefusedAddKeeps}
use Rattle.edit.proofs.Laws.Laying.{rewritten_at, rewritten_same}
use Rattle.edit.proofs.Laws.Rereading.{Keeping, rewrites, only_two, laid_to, kept_count_lem, kept_period, kept_head, kept_domains, kept_numbers, kept_orderly, kept_link, new_link}

-- the record that is taken where there is a free one, and 0 where there is none
module _ (s : List ℕ) where
  abbrev some_free : Bool
  some_free = some_below (free s) (record_count s)

  pub free_off : (k : ℕ) → free s k ≡ true → (1 ≤ k) × (has k (chain_of s) ≡ false)
  unfolding free
  free_off k e = let b = and_both (leb 1 k) (not (has k (chain_of s))) e in (leb-true 1 k b.0, not-true (has k (chain_of s)) b.1)

  pub new_free : some_free ≡ true → (new_record s < record_count s) × (1 ≤ new_record s) × (has (new_record s) (chain_of s) ≡ false)
  new_free e = let h = highest_is (free s) (record_count s) e in let f = free_off (new_record s) h.1 in (h.0, f.0, f.1)

  pub new_none : new_record s ≡ 0 → some_free ≡ false
  new_none e = go some_free refl
    where
      go : (b : Bool) → some_free ≡ b → some_free ≡ false
      go true q = absurd (omega (arith, (new_free q).1))
      go false q = q

  pub new_some : (new_record s ≡ 0 → ⊥) → some_free ≡ true
  new_some n = go some_free refl
    where
      go : (b : Bool) → some_free ≡ b → some_free ≡ true
      go true q = q
      go false q = absurd (n (highest_none (free s) (record_count s) q))

-- What is known where nothing is refused: the file is read, and there is room for domain d.
record Fits (s : List ℕ) (d : Domain) : Type 0 where
  ok : (read_plan s).refused ≡ 0
  fine : Fine (period_in s) d
  unmet : has d.number (numbers_in s) ≡ false
  room : reserved_of (domains_in s) + reserves d ≤ period_in s
  free : some_below (free s) (record_count s) ≡ true

module _ (s : List ℕ) (d : Domain) (v : Fits s d) where
  abbrev xs : List ℕ
  xs = chain_of s

  abbrev i : ℕ
  i = new_record s

  abbrev last : ℕ
  last = last_record s

  abbrev t : List ℕ
  t = laid (added_record s d) s

  c : Tidy s
  c = tidy s v.ok

  g : Good s
  g = good s c.earlier

  inside : i < record_count s
  inside = (new_free s v.free).0

  some : i ≡ 0 → ⊥
  some e = omega (arith, (new_free s v.free).1)

  new : has i (0 ∷ xs) ≡ false
  new = not_has i 0 xs some (new_free s v.free).2

  edit : Keeping s (added_record s d) last i xs
  edit = rewrites s last i i (domain_record 0 d) xs g.head refl new (chain_orderly s)

  -- the new record
  there : record_at t i ≡ domain_record 0 d
  there = laid_to edit i inside ∙ rewritten_at s last i i (domain_record 0 d) i refl

  period : period_in t ≡ period_in s
  period = kept_period edit

  states : domain_at t i ≡ d
  states = ap domain_in there ∙ domain_back (period_in s) 0 d (within 4096 (period_in s) g.period).1 v.fine

  takes : Takeable t i
  takes =
      record {
        some = some;
        inside = subst (λ (n : ℕ). i < n) (sym (kept_count_lem edit)) inside;
        listed = ap unlisted there ∙ record_listed 0 d;
        fine = subst (Fine (period_in t)) (sym states) (subst (λ (P : ℕ). Fine P d) (sym period) v.fine);
      }

  -- the links, and the domains
  end : link_of t i ≡ 0
  end = link_of_lem t i some ∙ ap next_in there

  onto : link_of t last ≡ i
  onto = new_link edit last (last_in xs 0) refl (omega (arith, inside, g.whole.short))

  domains : domains_at t (xs ++ (i ∷ [])) ≡ domains_in s ++ (d ∷ [])
  domains = map-append (domain_at t) xs (i ∷ []) ∙ ap₂ (λ (ds : List Domain) (x : Domain). ds ++ (x ∷ [])) (kept_domains edit) states

  total : reserved_of (domains_in s ++ (d ∷ [])) ≡ reserved_of (domains_in s) + reserves d
  total =
      ap sum (map-append (λ (x : Domain). reserves x) (domains_in s) (d ∷ []))
      ∙ sum_snoc (map (λ (x : Domain). reserves x) (domains_in s)) (reserves d)

  met : has (number_at t i) (map (number_at t) xs) ≡ false
  met = ap₂ (λ (x : ℕ) (l : List ℕ). has x l) (ap (λ (x : Domain). x.number) states) (kept_numbers edit) ∙ v.unmet

  intact : Intact t (xs ++ (i ∷ []))
  intact =
      record {
        head = kept_head edit;
        leads =
            lead_join t 0 xs (i ∷ []) i 0
            (lead_to s t 0 xs (link s xs) i (orderly_some s xs (chain_orderly s)) (kept_link edit) onto (chain_leads s))
            (onto, end);
        orderly = orderly_more t xs i (kept_orderly edit) takes (new_free s v.free).2 met;
        room = omega (arith, period, ap reserved_of domains, total, v.room);
      }

  -- a record off the chain was off it before
  off : (k : ℕ) → 1 ≤ k → k < record_count s → has k (xs ++ (i ∷ [])) ≡ false → zeros (record_at t k) ≡ true
  off k one h e =
      let m = has_neither k xs (i ∷ []) e in
      let other : k ≡ last → ⊥ = λ x. differ last k (0 ∷ xs) (last_in xs 0) (not_has k 0 xs (λ z. omega arith) m.0) (sym x) in
      ap zeros (laid_to edit k h ∙ rewritten_same s last i i (domain_record 0 d) k (has_not k i [] m.1).0 other) ∙ c.unused k one h m.0

  after : read_plan t ≡ accepted_reading (with_domain (read_plan s).plan d)
  after =
      intact_read intact (λ k one h e. off k one (subst (λ (m : ℕ). k < m) (kept_count_lem edit) h) e)
      ∙ ap accepted_reading
      (ap₂ plan_of period domains ∙ with_snoc (no_domains (period_in s)) (domains_in s) d
      ∙ ap (λ (r : Reading). with_domain r.plan d) (sym (c.same ∙ g.answer)))

  chain_after : chain_of t ≡ xs ++ (i ∷ [])
  chain_after = intact_chain intact

  touched : OnlyTwo s t i last
  touched = only_two s last i i (domain_record 0 d) xs g.head refl

-- what adding answers, line by line
module _ (s : List ℕ) (d : Domain) where
  pub add_unread : ((read_plan s).refused ≡ 0 → ⊥) → add_refusal s d ≡ refusal (read_plan s).refused (read_plan s).place
  unfolding add_refusal
  add_unread f = hit _ _ _ (neg' (ne_eqb (read_plan s).refused 0 f))

  module _ (ok : (read_plan s).refused ≡ 0) where
    pub add_unfit : (domain_refusal s d ≡ 0 → ⊥) → add_refusal s d ≡ refusal (domain_refusal s d) 0
    unfolding add_refusal
    add_unfit f = miss _ _ _ (neg (eq-eqb (read_plan s).refused 0 ok)) ∙ hit _ _ _ (neg' (ne_eqb (domain_refusal s d) 0 f))

    module _ (fits : domain_refusal s d ≡ 0) where
      pub add_full : some_below (free s) (record_count s) ≡ false → add_refusal s d ≡ refusal 71 0
      unfolding add_refusal
      add_full e = miss _ _ _ (neg (eq-eqb (read_plan s).refused 0 ok)) ∙ miss _ _ _ (neg (eq-eqb (domain_refusal s d) 0 fits)) ∙ hit _ _ _ (neg' e)

      pub add_taken : some_below (free s) (record_count s) ≡ true → add_refusal s d ≡ refusal 0 0
      unfolding add_refusal
      add_taken e = miss _ _ _ (neg (eq-eqb (read_plan s).refused 0 ok)) ∙ miss _ _ _ (neg (eq-eqb (domain_refusal s d) 0 fits)) ∙ miss _ _ _ (neg e)

  -- a domain that draws none of 6, 7, 9, 11 and 10
  pub record Fitting : Type 0 where
    pub fine : Fine (period_in s) d
    pub unmet : has d.number (numbers_in s) ≡ false
    pub room : reserved_of (domains_in s) + reserves d ≤ period_in s

  pub fitting : domain_refusal s d ≡ 0 → Fitting
  unfolding domain_refusal
  fitting none =
      let h = clear (λ (x : ℕ). x) (domain_table (period_in s) (has d.number (numbers_in s)) (reserved_of (domains_in s)) d) 0 none tt in
      let n = within 16 d.number h.0 in
      record {
        fine = record { low = n.0; high = n.1; range = h.1.1.0; capped = h.1.1.1.0 };
        unmet = h.1.0;
        room = ltb-false (period_in s) (reserved_of (domains_in s) + reserves d) h.1.1.1.1.0;
      }

  module _ (e : (add_refusal s d).refused ≡ 0) where
    told : Fits s d
    unfolding add_refusal
    told =
        let r = (read_plan s).refused in
        let m = domain_refusal s d in
        let l = clear (λ (x : Refusal). x.refused) (add_table s d) (refusal 0 0) e (tells_itself (eqb r 0) _ (tells_itself (eqb m 0) _ tt)) in
        let f = fitting (eqb-true m 0 (not-false (eqb m 0) l.1.0)) in
        record {
          ok = eqb-true r 0 (not-false (eqb r 0) l.0);
          fine = f.fine;
          unmet = f.unmet;
          room = f.room;
          free = not-false (some_below (free s) (record_count s)) l.1.1.0;
        }

    pub added_laid : added s d ≡ laid (added_record s d) s
    unfolding added
    added_laid = hit _ _ _ (eq-eqb (add_refusal s d).refused 0 e)

pub adds_domain : AddsDomain
adds_domain s d e =
    let h = told s d e in
    let is = added_laid s d e in
    record {
      read = ap read_plan is ∙ after s d h;
      chain = ap chain_of is ∙ chain_after s d h;
      touched = subst (λ (t : List ℕ). OnlyTwo s t (new_record s) (last_record s)) (sym is) (touched s d h);
    }

pub refused_add_keeps : RefusedAddKeeps
unfolding added
refused_add_keeps s d f = miss _ _ _ (ne_eqb (add_refusal s d).refused 0 f)
