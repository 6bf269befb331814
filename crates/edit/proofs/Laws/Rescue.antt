-- The claims of document 02, Point 14: a rescued file is accepted and keeps as much of the chain as fits, and an accepted file
-- keeps its bytes.
-- Assumes nothing.
use mathlib.Core.Path.{◌≡◌, refl, sym, ap, ap₂, subst, ◌∙◌}
use mathlib.Core.Bool.{Bool, true, false, cond, not, false≢true}
use mathlib.Core.List.{List, [], ◌∷◌, ◌++◌}
use Prim.Native.Nat.{ℕ, zero, suc, ◌≤◌, ◌<◌}
use native.Mathlib.Decide.{ℕ_discrete}
use native.Mathlib.Omega.{arith}
use lib.ListN.{length, take, drop, replicate, take-append-drop, length-map}
use lib.Seq.{take_all, take-suc, length-take-le}
use lib.Dec.{eqb, leb, ltb}
use borrow.Author.Tests.{eq-eqb, ne_eqb, leb-true, lt-ltb, le-ltb, ltb-true, ltb-false}
use Rattle.table.specs.Sums.{nth}
use Rattle.table.specs.Members.{has, each, last_of}
use Rattle.table.specs.Lines.{first_of}
use Rattle.table.proofs.Tables.{miss, hit, neg', and_both}
use Rattle.table.proofs.Elements.{sum_none}
use Rattle.table.proofs.Lists.{has_not, has_other, last_in, last_take, map_take}
use Rattle.plan.specs.Value.{no_period, plan_of, reserved_of}
use Rattle.plan.specs.Records.{part, zeros, record_at, record_count, period_in, domain_at}
use Rattle.plan.specs.Chain.{link_of, link, goes_on, chain_of, domains_at, domains_in}
use Rattle.plan.specs.Reading.{no_length, head_table, refused_reading, accepted_reading, read_plan, Reading}
use Rattle.plan.specs.declared.value.Domain.{Domain}
use Rattle.plan.proofs.Laws.Links.{walk_ends}
use Rattle.plan.proofs.Laws.Chains.{Leads, lead_front, lead_at, lead_to, Orderly, orderly_some, orderly_inside, orderly_front, chain_leads, chain_orderly, chain_ends}
use Rattle.plan.proofs.Laws.Reading.{Good, good, head_whole}
use Rattle.plan.proofs.Laws.Leftovers.{Tidy, tidy}
use Rattle.plan.proofs.Laws.Intact.{Intact, intact_chain, intact_read}
use Rattle.edit.specs.Laying.{laid, blank, with_link}
use Rattle.edit.specs.Rescue.{Rescued, remaining, kept_count, kept_records, rescued_record, stays_refused, rescue_answer, rescued, one_more, RescuesFile, AcceptedRescueKeeps, RefusedRescueKeeps}
use Rattle.edit.proofs.Laws.Records.{record_long, zeros_are}
use Rattle.edit.proofs.Laws.Laying.{laid_same, with_same, with_long, with_none}
use Rattle.edit.proofs.Laws.Rereading.{Keeping, laid_to, kept_length, kept_count_lem, kept_period, kept_head, kept_domains, kept_orderly, kept_link, new_link}

module _ (s : List ℕ) where
  -- what the first n domains of the chain reserve
  abbrev pub sum_to : ℕ → ℕ
  sum_to n = reserved_of (take n (domains_in s))

  -- what remains of no records, and of n: all of them where they fit, and else what remains of one fewer
  pub remaining_none : remaining s 0 ≡ 0
  unfolding remaining
  remaining_none = refl

  pub remaining_all : (n : ℕ) → sum_to n ≤ period_in s → remaining s n ≡ n
  unfolding remaining
  remaining_all zero h = refl
  remaining_all (suc n) h = miss _ _ _ (le-ltb (period_in s) (sum_to (suc n)) h)

  pub remaining_less : (n : ℕ) → period_in s < sum_to (suc n) → remaining s (suc n) ≡ remaining s n
  unfolding remaining
  remaining_less n h = hit _ _ _ (lt-ltb (period_in s) (sum_to (suc n)) h)

  -- What is known of it: it fits, there are no more than before, and no longer front part fits.
  record Left (m : ℕ) : Type 0 where
    fits : sum_to (remaining s m) ≤ period_in s
    within : remaining s m ≤ m
    most : (n : ℕ) → n ≤ m → sum_to n ≤ period_in s → n ≤ remaining s m

  is_left : (m : ℕ) → Left m
  unfolding remaining
  is_left zero = record { fits = omega (arith, sum_none); within = omega arith; most = λ n h f. h }
  is_left (suc m) = go (ltb (period_in s) (sum_to (suc m))) refl (is_left m)
    where
      go : (b : Bool) → ltb (period_in s) (sum_to (suc m)) ≡ b → Left m → Left (suc m)
      go true e v =
          let over = ltb-true (period_in s) (sum_to (suc m)) e in
          let is = remaining_less m over in
          record {
            fits = subst (λ (k : ℕ). sum_to k ≤ period_in s) (sym is) v.fits;
            within = omega (arith, is, v.within);
            most = λ n h f. subst (λ (k : ℕ). n ≤ k) (sym is) (v.most n (under n h f over (ℕ_discrete n (suc m))) f);
          }
        where
          under : (n : ℕ) → n ≤ suc m → sum_to n ≤ period_in s → period_in s < sum_to (suc m) → Dec (n ≡ suc m) → n ≤ m
          under n h f over (yes q) = absurd (omega (arith, ap sum_to q))
          under n h f over (no q) = omega arith
      go false e v =
          let fits = ltb-false (period_in s) (sum_to (suc m)) e in
          let is = remaining_all (suc m) fits in
          record {
            fits = subst (λ (k : ℕ). sum_to k ≤ period_in s) (sym is) fits;
            within = omega (arith, is);
            most = λ n h f. omega (arith, is);
          }

  abbrev all : ℕ
  all = length (chain_of s)

  abbrev rest : List ℕ
  rest = drop (kept_count s) (chain_of s)

  pub kept_within : kept_count s ≤ all
  kept_within = (is_left all).within

  -- all of them where the sum is not above the period
  module _ (fits : reserved_of (domains_in s) ≤ period_in s) where
    all_kept : kept_count s ≡ all
    all_kept =
        let same : take all (domains_in s) ≡ domains_in s = take_all all (domains_in s) (omega (arith, length-map (chain_of s) (domain_at s))) in
        remaining_all all (omega (arith, ap reserved_of same))

    whole_chain : kept_records s ≡ chain_of s
    whole_chain = take_all (kept_count s) (chain_of s) (omega (arith, all_kept))

  split : chain_of s ≡ kept_records s ++ rest
  split = sym (take-append-drop (kept_count s) (chain_of s))

  front_orderly : Orderly s (kept_records s)
  front_orderly = orderly_front s (kept_records s) rest (subst (Orderly s) split (chain_orderly s))

  -- the last of them, or record 0, is in the file
  pub last_inside : 16 ≤ length s → last_of 0 (kept_records s) < record_count s
  last_inside long = orderly_inside s (kept_records s) front_orderly long (last_of 0 (kept_records s)) (last_in (kept_records s) 0)

  front_domains : domains_at s (kept_records s) ≡ take (kept_count s) (domains_in s)
  front_domains = map_take (domain_at s) (kept_count s) (chain_of s)

  -- the records of a rescued file: those of the chain that is left, and the others
  module _ (k : ℕ) where
    on_chain : has k (0 ∷ kept_records s) ≡ true → rescued_record s k ≡ with_link s (last_of 0 (kept_records s)) 0 k
    unfolding rescued_record
    on_chain e = hit _ _ _ e

    off_chain : has k (0 ∷ kept_records s) ≡ false → rescued_record s k ≡ blank
    unfolding rescued_record
    off_chain e = miss _ _ _ e

    sixteen : k < record_count s → length (rescued_record s k) ≡ 16
    sixteen h = go (has k (0 ∷ kept_records s)) refl
      where
        go : (b : Bool) → has k (0 ∷ kept_records s) ≡ b → length (rescued_record s k) ≡ 16
        go true e = ap length (on_chain e) ∙ with_long s (last_of 0 (kept_records s)) 0 k h
        go false e = ap length (off_chain e)

  module _ (head : first_of (head_table s) 0 ≡ 0) where
    abbrev last : ℕ
    last = last_of 0 (kept_records s)

    abbrev t : List ℕ
    t = laid (rescued_record s) s

    keeping : Keeping s (rescued_record s) last 0 (kept_records s)
    keeping = record { head = head; sixteen = sixteen; keeps = on_chain; orderly = front_orderly }

    period : period_in t ≡ period_in s
    period = kept_period keeping

    domains : domains_at t (kept_records s) ≡ take (kept_count s) (domains_in s)
    domains = kept_domains keeping ∙ front_domains

    intact : Intact t (kept_records s)
    intact =
        record {
          head = kept_head keeping;
          leads =
              lead_to s t 0 (kept_records s) (link_of s last) 0 (orderly_some s (kept_records s) front_orderly)
              (kept_link keeping)
              (new_link keeping last (last_in (kept_records s) 0) refl (omega arith))
              (lead_front s 0 (kept_records s) rest (link s (chain_of s)) (subst (λ (c : List ℕ). Leads s 0 c (link s (chain_of s))) split (chain_leads s)));
          orderly = kept_orderly keeping;
          room = omega (arith, (is_left all).fits, period, ap reserved_of domains);
        }

    off : (k : ℕ) → 1 ≤ k → k < record_count t → has k (kept_records s) ≡ false → zeros (record_at t k) ≡ true
    unfolding each
    off k low h e =
        let inside : k < record_count s = subst (λ (n : ℕ). k < n) (kept_count_lem keeping) h in
        ap zeros (laid_to keeping k inside ∙ off_chain k (has_other k 0 (kept_records s) (λ z. omega arith) ∙ e))

    rescue_read : read_plan t ≡ accepted_reading (plan_of (period_in s) (take (kept_count s) (domains_in s)))
    rescue_read = intact_read intact off ∙ ap₂ (λ (P : ℕ) (ds : List Domain). accepted_reading (plan_of P ds)) period domains

    rescue_chain : chain_of t ≡ kept_records s
    rescue_chain = intact_chain intact

    rescue_domains : domains_in t ≡ take (kept_count s) (domains_in s)
    rescue_domains = ap (domains_at t) rescue_chain ∙ domains

    rescue_same : (k : ℕ) → has k (0 ∷ kept_records s) ≡ true → (k ≡ last → ⊥) → record_at t k ≡ record_at s k
    rescue_same k on n =
        laid_to keeping k (orderly_inside s (kept_records s) front_orderly (head_whole s head).long k on) ∙ on_chain k on ∙ with_same s last 0 k n

    rescue_length : length t ≡ length s
    rescue_length = kept_length keeping

    -- behind the records kept the walk goes on only to one that brings the sum above the period
    rescue_next : goes_on s (kept_records s) ≡ true → period_in s < reserved_of (domains_at s (one_more s))
    rescue_next on = go (ℕ_discrete (kept_count s) all)
      where
        go : Dec (kept_count s ≡ all) → period_in s < reserved_of (domains_at s (one_more s))
        go (yes e) =
            let same : kept_records s ≡ chain_of s = take_all (kept_count s) (chain_of s) (omega arith) in
            absurd (false≢true (sym (walk_ends s (head_whole s head).short) ∙ ap (goes_on s) (sym same) ∙ on))
        go (no n) =
            let less : kept_count s < all = omega (arith, kept_within) in
            let named : link s (kept_records s) ≡ nth (chain_of s) (kept_count s) =
            ap (link_of s) (last_take (chain_of s) 0 (kept_count s) kept_within)
            ∙ lead_at s 0 (chain_of s) (link s (chain_of s)) (kept_count s) (chain_leads s) less in
            let more : one_more s ≡ take (suc (kept_count s)) (chain_of s) =
            ap (λ (i : ℕ). kept_records s ++ (i ∷ [])) named ∙ sym (take-suc (chain_of s) (kept_count s) 0 less) in
            let sums : reserved_of (domains_at s (one_more s)) ≡ sum_to (suc (kept_count s)) =
            ap (λ (xs : List ℕ). reserved_of (domains_at s xs)) more ∙ ap reserved_of (map_take (domain_at s) (suc (kept_count s)) (chain_of s)) in
            over sums (ltb (period_in s) (sum_to (suc (kept_count s)))) refl
          where
            over : reserved_of (domains_at s (one_more s)) ≡ sum_to (suc (kept_count s)) → (b : Bool)
                → ltb (period_in s) (sum_to (suc (kept_count s))) ≡ b → period_in s < reserved_of (domains_at s (one_more s))
            over q true e = omega (arith, q, ltb-true (period_in s) (sum_to (suc (kept_count s))) e)
            over q false e =
                absurd (omega (arith, kept_within, (is_left all).most (suc (kept_count s)) (omega (arith, kept_within)) (ltb-false (period_in s) (sum_to (suc (kept_count s))) e)))

-- what rescuing answers: a refusal 1 to 3 of reading, or none
module _ (s : List ℕ) where
  pub answer_refused : stays_refused (read_plan s).refused ≡ true
      → rescue_answer s ≡ record { refused = (read_plan s).refused; place = (read_plan s).place; kept = 0 }
  unfolding rescue_answer
  answer_refused e = hit _ _ _ e

  pub answer_taken : stays_refused (read_plan s).refused ≡ false → rescue_answer s ≡ record { refused = 0; place = 0; kept = kept_count s }
  unfolding rescue_answer
  answer_taken e = miss _ _ _ e

  -- 1 to 3 are drawn by the length or record 0, and then reading draws them
  abbrev drawn : Bool → Bool → Bool → ℕ
  drawn a b c = first_of ((a, 1) ∷ (b, 2) ∷ (c, 3) ∷ []) 0

  head_low : (first_of (head_table s) 0 ≡ 0 → ⊥) → stays_refused (first_of (head_table s) 0) ≡ true
  head_low = go (no_length (length s)) (no_period (period_in s)) (not (zeros (part s 4 12)))
    where
      go : (a b c : Bool) → (drawn a b c ≡ 0 → ⊥) → stays_refused (drawn a b c) ≡ true
      go true b c n = refl
      go false true c n = refl
      go false false true n = refl
      go false false false n = absurd (n refl)

  read_head : (first_of (head_table s) 0 ≡ 0 → ⊥) → read_plan s ≡ refused_reading (first_of (head_table s) 0) 0
  unfolding read_plan
  read_head n = hit _ _ _ (neg' (ne_eqb (first_of (head_table s) 0) 0 n))

  pub taken_head : stays_refused (read_plan s).refused ≡ false → first_of (head_table s) 0 ≡ 0
  taken_head e = go (ℕ_discrete (first_of (head_table s) 0) 0)
    where
      go : Dec (first_of (head_table s) 0 ≡ 0) → first_of (head_table s) 0 ≡ 0
      go (yes q) = q
      go (no n) = absurd (false≢true (sym e ∙ ap (λ (r : Reading). stays_refused r.refused) (read_head n) ∙ head_low n))

  refused_some : stays_refused (read_plan s).refused ≡ true → (rescue_answer s).refused ≡ 0 → ⊥
  refused_some q e =
      let some = leb-true 1 (read_plan s).refused (and_both (leb 1 (read_plan s).refused) (leb (read_plan s).refused 3) q).0 in
      omega (arith, some, e, ap (λ (r : Rescued). r.refused) (answer_refused q))

  module _ (e : (rescue_answer s).refused ≡ 0) where
    taken : stays_refused (read_plan s).refused ≡ false
    taken = go (stays_refused (read_plan s).refused) refl
      where
        go : (b : Bool) → stays_refused (read_plan s).refused ≡ b → stays_refused (read_plan s).refused ≡ false
        go true q = absurd (refused_some q e)
        go false q = q

    rescued_laid : rescued s ≡ laid (rescued_record s) s
    unfolding rescued
    rescued_laid = hit _ _ _ (eq-eqb (rescue_answer s).refused 0 e)

  -- what the file then holds
  pub taken_laid : stays_refused (read_plan s).refused ≡ false → rescued s ≡ laid (rescued_record s) s
  taken_laid e = rescued_laid (ap (λ (r : Rescued). r.refused) (answer_taken e))

pub rescues_file : RescuesFile
rescues_file s e =
    let head = taken_head s (taken s e) in
    let is = rescued_laid s e in
    let chain = ap chain_of is ∙ rescue_chain s head in
    record {
      read = ap read_plan is ∙ rescue_read s head;
      chain = chain;
      domains = ap domains_in is ∙ rescue_domains s head;
      told = ap (λ (r : Rescued). r.kept) (answer_taken s (taken s e)) ∙ sym (ap length chain ∙ length-take-le (kept_count s) (chain_of s) (kept_within s));
      same = λ k on n. ap (λ (t : List ℕ). record_at t k) is ∙ rescue_same s head k on n;
      long = ap length is ∙ rescue_length s head;
      most = (is_left s (all s)).most;
      whole = whole_chain s;
      next = rescue_next s head;
    }

pub refused_rescue_keeps : RefusedRescueKeeps
unfolding rescued
refused_rescue_keeps s f = miss _ _ _ (ne_eqb (rescue_answer s).refused 0 f)

pub refused_keeps : (s : List ℕ) → stays_refused (read_plan s).refused ≡ true → rescued s ≡ s
refused_keeps s q = refused_rescue_keeps s (refused_some s q)

-- a file that is accepted: all of its chain is kept, its last link is 0, and every other record is zero
module _ (s : List ℕ) (ok : (read_plan s).refused ≡ 0) where
  c : Tidy s
  c = tidy s ok

  g : Good s
  g = good s c.earlier

  same_chain : kept_records s ≡ chain_of s
  same_chain = whole_chain s g.sum

  end : link_of s (last_of 0 (kept_records s)) ≡ 0
  end = ap (link s) same_chain ∙ chain_ends s g.whole.short g.through

  same : (k : ℕ) → k < record_count s → rescued_record s k ≡ record_at s k
  same k h = go (has k (0 ∷ kept_records s)) refl
    where
      go : (b : Bool) → has k (0 ∷ kept_records s) ≡ b → rescued_record s k ≡ record_at s k
      go true e = on_chain s k e ∙ with_none s (last_of 0 (kept_records s)) 0 k h refl end
      go false e =
          let m = has_not k 0 (kept_records s) e in
          let some = m.0 in
          let zero = c.unused k (omega arith) h (ap (has k) (sym same_chain) ∙ m.1) in
          off_chain s k e ∙ sym (zeros_are (record_at s k) zero ∙ ap (λ (n : ℕ). replicate n 0) (record_long s k h))

  bytes_kept : rescued s ≡ s
  unfolding rescued
  bytes_kept = go (eqb (rescue_answer s).refused 0)
    where
      go : (b : Bool) → cond b (laid (rescued_record s) s) s ≡ s
      go true = laid_same s g.whole (rescued_record s) same
      go false = refl

pub accepted_rescue_keeps : AcceptedRescueKeeps
accepted_rescue_keeps s ok = record { bytes = bytes_kept s ok; all = all_kept s (g s ok).sum }
