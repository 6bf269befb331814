-- The claims of document 02, Point 4 on dropping, and what dropping answers line by line.
-- Assumes nothing.
use mathlib.Core.Path.{◌≡◌, refl, sym, ap, ap₂, subst, ◌∙◌}
use mathlib.Core.Bool.{true, false}
use mathlib.Core.List.{List, [], ◌∷◌, ◌++◌, map, map-append}
use Prim.Native.Nat.{ℕ, suc, ◌≤◌, ◌<◌}
use native.Mathlib.Decide.{ℕ_discrete}
use native.Mathlib.Omega.{arith}
use lib.ListN.{length, take, drop, length-map}
use lib.Dec.{eqb}
use borrow.Author.Tests.{eqb-true, eq-eqb, ne_eqb, not-false}
use Rattle.table.specs.Members.{has, each, last_of, place_in, without}
use Rattle.table.proofs.Tables.{miss, hit, neg, neg', clear, tells_itself}
use Rattle.table.proofs.Lists.{has_first, has_later, not_has, has_left, has_right, has_neither, neither_has, differ, last_in, last_take, parted_at, map_at, place_at, Apart, apart_mid, apart_sides, apart_front, without_mid}
use Rattle.plan.specs.Value.{plan_of, reserved_of, refusal, Refusal}
use Rattle.plan.specs.Records.{zeros, record_at, record_count, period_in, domain_at, number_at}
use Rattle.plan.specs.Chain.{link_of, chain_of, domains_at}
use Rattle.plan.specs.Reading.{accepted_reading, read_plan, Reading}
use Rattle.plan.specs.declared.value.Domain.{Domain}
use Rattle.plan.proofs.Laws.Holding.{numbers}
use Rattle.plan.proofs.Laws.Links.{numbers_met}
use Rattle.plan.proofs.Laws.Chains.{Leads, lead_to, lead_over, lead_join, lead_front, lead_back, Takeable, Orderly, orderly_some, orderly_less, orderly_low, chain_leads, chain_orderly, chain_ends}
use Rattle.plan.proofs.Laws.Reading.{Good, good}
use Rattle.plan.proofs.Laws.Leftovers.{Tidy, tidy}
use Rattle.plan.proofs.Laws.Intact.{Intact, intact_chain, intact_read}
use Rattle.edit.specs.Laying.{laid, blank, OnlyTwo}
use Rattle.edit.specs.Dropping.{numbers_in, holder, namer, dropped_record, drop_table, drop_refusal, dropped, without_domain, DropsDomain, RefusedDropKeeps}
use Rattle.edit.proofs.Laws.Laying.{rewritten_at, rewritten_same}
use Rattle.edit.proofs.Laws.Rereading.{Keeping, rewrites, only_two, laid_to, kept_count_lem, kept_period, kept_head, kept_domains, kept_orderly, kept_link, new_link}
use Rattle.edit.proofs.Laws.Without.{plan_without, reserved_without}

-- a file that is read, of which domain n is on the chain
module _ (s : List ℕ) (n : ℕ) (ok : (read_plan s).refused ≡ 0) (on : has n (numbers_in s) ≡ true) where
  abbrev p : ℕ
  p = place_in n (numbers_in s)

  abbrev a : List ℕ
  a = take p (chain_of s)

  abbrev i : ℕ
  i = holder s n

  abbrev b : List ℕ
  b = drop (suc p) (chain_of s)

  abbrev t : List ℕ
  t = laid (dropped_record s n) s

  c : Tidy s
  c = tidy s ok

  g : Good s
  g = good s c.earlier

  -- the chain is the records ahead, the one of domain n, and those behind
  place : p < length (chain_of s)
  place = omega (arith, (place_at n (numbers_in s) on).0, length-map (chain_of s) (number_at s))

  split : chain_of s ≡ a ++ (i ∷ b)
  split = parted_at (chain_of s) p place

  named : number_at s i ≡ n
  named = sym (map_at (number_at s) (chain_of s) p place) ∙ (place_at n (numbers_in s) on).1

  prev_is : namer s n ≡ last_of 0 a
  prev_is = sym (last_take (chain_of s) 0 p (omega (arith, place)))

  ordered : Orderly s (a ++ (i ∷ b))
  ordered = subst (Orderly s) split (chain_orderly s)

  leads : Leads s 0 (a ++ (i ∷ b)) 0
  leads = subst (λ (l : List ℕ). Leads s 0 l 0) split (subst (Leads s 0 (chain_of s)) (chain_ends s g.whole.short g.through) (chain_leads s))

  behind : Leads s i b 0
  behind = (lead_back s 0 a (i ∷ b) 0 leads).1

  left : Orderly s (a ++ b)
  left = orderly_less s a i b ordered

  ahead_in : (j : ℕ) → has j a ≡ true → has j (a ++ (i ∷ b)) ≡ true
  ahead_in j h = has_left j a (i ∷ b) h

  behind_in : (j : ℕ) → has j b ≡ true → has j (a ++ (i ∷ b)) ≡ true
  behind_in j h = has_right j a (i ∷ b) (has_later j i b h)

  here : Takeable s i
  here = ordered.each i (has_right i a (i ∷ b) (has_first i i b refl))

  -- the record that is dropped is none of the others
  not_left : has i (0 ∷ (a ++ b)) ≡ false
  not_left = let m = apart_mid a i b ordered.apart in not_has i 0 (a ++ b) here.some (neither_has i a b m.0 m.1)

  edit : Keeping s (dropped_record s n) (last_of 0 a) (link_of s i) (a ++ b)
  edit =
      subst (λ (q : ℕ). Keeping s (dropped_record s n) q (link_of s i) (a ++ b)) prev_is
      (rewrites s (namer s n) (link_of s i) i blank (a ++ b) g.head refl not_left left)

  -- the link over the record
  small : link_of s i < 65536
  small = go b behind (λ j h. ordered.each j (behind_in j h))
    where
      go : (ys : List ℕ) → Leads s i ys 0 → ((j : ℕ) → has j ys ≡ true → Takeable s j) → link_of s i < 65536
      go [] l z = omega (arith, l)
      go (j ∷ js) l z = omega (arith, l.0, (z j (has_first j j js refl)).inside, g.whole.short)

  kept_in : (j : ℕ) → has j (0 ∷ a) ≡ true → has j (0 ∷ (a ++ b)) ≡ true
  kept_in j h = has_left j (0 ∷ a) b h

  joined : link_of t (last_of 0 a) ≡ link_of s i
  joined = new_link edit (last_of 0 a) (kept_in (last_of 0 a) (last_in a 0)) refl small

  -- the domains of the file, before and after
  abbrev d : Domain
  d = domain_at s i

  whole_is : domains_at s (chain_of s) ≡ domains_at s a ++ (d ∷ domains_at s b)
  whole_is = ap (domains_at s) split ∙ map-append (domain_at s) a (i ∷ b)

  left_is : domains_at t (a ++ b) ≡ domains_at s a ++ domains_at s b
  left_is = kept_domains edit ∙ map-append (domain_at s) a b

  intact : Intact t (a ++ b)
  intact =
      let all = orderly_some s (a ++ b) left in
      record {
        head = kept_head edit;
        leads =
            lead_join t 0 a b (link_of s i) 0
            (lead_to s t 0 a (link_of s (last_of 0 a)) (link_of s i) (apart_front (0 ∷ a) b all) (λ j h m. kept_link edit j (kept_in j h) m) joined (lead_front s 0 a (i ∷ b) 0 leads))
            (lead_over s t i (last_of 0 a) b 0 joined
            (λ j h. kept_link edit j (has_right j (0 ∷ a) b h) (λ e. differ j (last_of 0 a) b h (apart_sides (last_of 0 a) (0 ∷ a) b all (last_in a 0)) e)) behind);
        orderly = kept_orderly edit;
        room =
            omega (
              arith,
              kept_period edit,
              ap reserved_of left_is,
              reserved_without (domains_at s a) d (domains_at s b),
              ap reserved_of whole_is,
              g.sum,
            );
      }

  -- no other domain has number n
  unmet : (has n (map (number_at s) a) ≡ false) × (has n (map (number_at s) b) ≡ false)
  unmet =
      let m = apart_mid (map (number_at s) a) (number_at s i) (map (number_at s) b) (subst Apart (map-append (number_at s) a (i ∷ b)) ordered.numbers) in
      (ap (λ (x : ℕ). has x (map (number_at s) a)) (sym named) ∙ m.0, ap (λ (x : ℕ). has x (map (number_at s) b)) (sym named) ∙ m.1)

  -- and none has number 0
  low : (has 0 (map (number_at s) a) ≡ false) × (has 0 (map (number_at s) b) ≡ false)
  low = has_neither 0 (map (number_at s) a) (map (number_at s) b) (ap (has 0) (sym (map-append (number_at s) a b)) ∙ orderly_low s (a ++ b) left)

  plan_is : plan_of (period_in s) (domains_at s a ++ domains_at s b) ≡ without_domain (plan_of (period_in s) (domains_at s (chain_of s))) n
  plan_is =
      let met : (x : ℕ) (xs : List ℕ) → has x (map (number_at s) xs) ≡ false → has x (numbers (domains_at s xs)) ≡ false =
      λ x xs e. ap (has x) (numbers_met s xs) ∙ e in
      let own : (xs : List ℕ) → has n (map (number_at s) xs) ≡ false → has d.number (numbers (domains_at s xs)) ≡ false =
      λ xs e. met d.number xs (ap (λ (x : ℕ). has x (map (number_at s) xs)) named ∙ e) in
      plan_without (period_in s) (domains_at s a) d (domains_at s b) here.fine.low
      (met 0 a low.0) (own a unmet.0) (met 0 b low.1) (own b unmet.1)
      ∙ ap₂ (λ (ds : List Domain) (x : ℕ). without_domain (plan_of (period_in s) ds) x) (sym whole_is) named

  -- a record off the chain was off it before, or is the one that was zeroed
  off : (k : ℕ) → 1 ≤ k → k < record_count s → has k (a ++ b) ≡ false → Dec (k ≡ i) → zeros (record_at t k) ≡ true
  unfolding each
  off k one h e (yes q) = ap zeros (laid_to edit k h ∙ rewritten_at s (namer s n) (link_of s i) i blank k q)
  off k one h e (no q) =
      let m = has_neither k a b e in
      let far : has k (chain_of s) ≡ false = ap (has k) split ∙ neither_has k a (i ∷ b) m.0 (not_has k i b q m.1) in
      let other : k ≡ namer s n → ⊥ = λ x. differ (last_of 0 a) k (0 ∷ a) (last_in a 0) (not_has k 0 a (λ z. omega arith) m.0) (sym (x ∙ prev_is)) in
      ap zeros (laid_to edit k h ∙ rewritten_same s (namer s n) (link_of s i) i blank k q other) ∙ c.unused k one h far

  after : read_plan t ≡ accepted_reading (without_domain (read_plan s).plan n)
  after =
      intact_read intact (λ k one h e. off k one (subst (λ (m : ℕ). k < m) (kept_count_lem edit) h) e (ℕ_discrete k i))
      ∙ ap accepted_reading (ap₂ plan_of (kept_period edit) left_is ∙ plan_is ∙ ap (λ (r : Reading). without_domain r.plan n) (sym (c.same ∙ g.answer)))

  chain_after : chain_of t ≡ without i (chain_of s)
  chain_after = intact_chain intact ∙ sym (ap (without i) split ∙ without_mid a i b ordered.apart)

  touched : OnlyTwo s t i (namer s n)
  touched = only_two s (namer s n) (link_of s i) i blank (a ++ b) g.head refl

-- what dropping answers, line by line
module _ (s : List ℕ) (n : ℕ) where
  pub drop_unread : ((read_plan s).refused ≡ 0 → ⊥) → drop_refusal s n ≡ refusal (read_plan s).refused (read_plan s).place
  unfolding drop_refusal
  drop_unread f = hit _ _ _ (neg' (ne_eqb (read_plan s).refused 0 f))

  module _ (ok : (read_plan s).refused ≡ 0) where
    pub drop_absent : has n (numbers_in s) ≡ false → drop_refusal s n ≡ refusal 72 0
    unfolding drop_refusal
    drop_absent e = miss _ _ _ (neg (eq-eqb (read_plan s).refused 0 ok)) ∙ hit _ _ _ (neg' e)

    pub drop_taken : has n (numbers_in s) ≡ true → drop_refusal s n ≡ refusal 0 0
    unfolding drop_refusal
    drop_taken e = miss _ _ _ (neg (eq-eqb (read_plan s).refused 0 ok)) ∙ miss _ _ _ (neg e)

  module _ (e : (drop_refusal s n).refused ≡ 0) where
    told : ((read_plan s).refused ≡ 0) × (has n (numbers_in s) ≡ true)
    unfolding drop_refusal
    told =
        let r = (read_plan s).refused in
        let l = clear (λ (x : Refusal). x.refused) (drop_table s n) (refusal 0 0) e (tells_itself (eqb r 0) _ tt) in
        (eqb-true r 0 (not-false (eqb r 0) l.0), not-false (has n (numbers_in s)) l.1.0)

    pub dropped_laid : dropped s n ≡ laid (dropped_record s n) s
    unfolding dropped
    dropped_laid = hit _ _ _ (eq-eqb (drop_refusal s n).refused 0 e)

pub drops_domain : DropsDomain
drops_domain s n e =
    let h = told s n e in
    let is = dropped_laid s n e in
    record {
      read = ap read_plan is ∙ after s n h.0 h.1;
      chain = ap chain_of is ∙ chain_after s n h.0 h.1;
      touched = subst (λ (t : List ℕ). OnlyTwo s t (holder s n) (namer s n)) (sym is) (touched s n h.0 h.1);
    }

pub refused_drop_keeps : RefusedDropKeeps
unfolding dropped
refused_drop_keeps s n f = miss _ _ _ (ne_eqb (drop_refusal s n).refused 0 f)
