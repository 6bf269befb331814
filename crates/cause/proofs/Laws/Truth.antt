-- The cause of a verdict is what the rules gave in that slot, and no other cause is.
-- Assumes nothing.
use mathlib.Core.Path.{◌≡◌, refl, sym, ap, ap₂, subst, ◌∙◌}
use mathlib.Core.Logic.{◌≢◌, ◌⊎◌, inl, inr}
use mathlib.Core.Bool.{Bool, true, false, cond, not, ◌&&◌, false≢true}
use mathlib.Core.List.{List}
use Prim.Native.Nat.{ℕ, ◌+◌, ◌-◌, ◌≤◌, ◌<◌}
use native.Mathlib.Decide.{ℕ_discrete}
use native.Mathlib.Omega.{arith}
use lib.Dec.{eqb, ltb}
use lib.IntN.{pos}
use lib.Signed.{le_z}
use lib.ListN.{length}
use borrow.Author.Tests.{eqb-true, eqb-false, ltb-true, ltb-false, eq-eqb, ne_eqb, lt-ltb, le-ltb, not-true}
use Rattle.table.specs.Sums.{nth, sum}
use Rattle.table.specs.Ranges.{some_below, lowest}
use Rattle.table.proofs.Tables.{miss, hit, and_both}
use Rattle.table.proofs.Searches.{none_at, lowest_is, lowest_some, lowest_at}
use Rattle.regulator.specs.Verdict.{at_cap, claim_of, waiting, loose, blocked, ruling, ruling_at, ruling_of, passes}
use Rattle.regulator.specs.Turn.{granted, steps_of, verdicts}
use Rattle.regulator.specs.Grant.{on_claim, on_stock, on_neither, on_writeback, onward, decided_of}
use Rattle.regulator.specs.Close.{ended, Answer}
use Rattle.regulator.specs.Refusals.{above_two, slot_refusal}
use Rattle.regulator.specs.Calls.{slot_of}
use Rattle.regulator.specs.declared.state.State.{State}
use Rattle.regulator.proofs.Laws.Adding.{Adds, adds}
use Rattle.regulator.proofs.Laws.Refusing.{slot_taken}
use Rattle.regulator.proofs.Laws.Asking.{ask_passes}
use Rattle.regulator.proofs.Laws.Ruling.{ruling_best, ruling_domain, never_one, passing_offers, Granted, to_none, to_best, on_claim_lem, on_stock_lem, on_writeback_lem, granted_most, some_granted, granted_to, verdict_granted, verdict_other, verdict_number}
use Rattle.regulator.proofs.Laws.Deciding.{decided_best, decided_claim, decided_stock, decided_writeback, ended_open, ended_complete, slot_decided, slot_number, shown_decided}
use Rattle.cause.specs.Cause.{Word, of_claim, of_stock, of_neither, Cause, word, number, cap, totals, loose_and, word_for, word_of, cause_from, cause_at}
use Rattle.cause.specs.Reason.{Leaves, Reason, no_offer, access_claim, writeback_claim, access_stock, writeback_neither, best_neither, other_granted, writebacks_full, reclaimed_full, stock_empty, held_back, TrueCause, CauseIsTrue}

-- the line of the verdicts' table that applied
data Line (n c q f d b : Bool) : ℕ → Type 0 where
  line_0 : n ≡ true → Line n c q f d b 0
  line_3 : c ≡ true → Line n c q f d b 3
  line_claim : Line n c q f d b 2
  line_4 : n ≡ false → q ≡ false → f ≡ true → Line n c q f d b 4
  line_5 : n ≡ false → q ≡ false → f ≡ false → d ≡ true → Line n c q f d b 5
  line_6 : n ≡ false → q ≡ false → b ≡ true → Line n c q f d b 6
  line_other : Line n c q f d b 2

line : (n c q f d b : Bool) → Line n c q f d b (ruling n c q f d b)
unfolding ruling
line true c q f d b = line_0 refl
line false true q f d b = line_3 refl
line false false true f d b = line_claim
line false false false true d b = line_4 refl refl refl
line false false false false true b = line_5 refl refl refl refl
line false false false false false true = line_6 refl refl refl
line false false false false false false = line_other

back : (j : ℕ) → j + 1 - 1 ≡ j
back j = omega arith

-- what the end of a slot leaves is what the state held
leaves : (t : State) (steps : ℕ)
    → Leaves (ended t steps) t.claim t.writebackclaim t.stock t.reserved t.reclaimed t.writebacks t.best
leaves t steps = go (ℕ_discrete t.decided t.plan.period)
  where
    Here : Answer → Type 0
    Here a = Leaves a t.claim t.writebackclaim t.stock t.reserved t.reclaimed t.writebacks t.best

    go : Dec (t.decided ≡ t.plan.period) → Here (ended t steps)
    go (yes q) =
        subst Here (sym (ended_complete t steps q)) (record { held = λ e. absurd (false≢true (sym e)); counted = (refl, refl, refl, refl) })
    go (no q) = subst Here (sym (ended_open t steps q)) (record { held = λ e. (refl, refl, refl); counted = (refl, refl, refl, refl) })

-- the word of a domain, by the kind that it offers
module _ (s : State) (o : List ℕ) (j : ℕ) where
  domain_word : (w : Bool) → eqb (nth o (j + 1)) 2 ≡ w → (c : ℕ) → cond w (nth s.writebackclaim j) (nth s.claim j) ≡ c
      → word_of s o (j + 1) ≡ cond (ltb 0 c) of_claim (cond w of_neither of_stock)
  unfolding word_for
  domain_word w e c h =
      miss _ _ _ (ne_eqb (j + 1) 0 (λ z. omega arith))
      ∙ ap (λ (i : ℕ). cond (ltb 0 (claim_of (nth o (j + 1)) (nth s.claim i) (nth s.writebackclaim i))) of_claim (cond (eqb (nth o (j + 1)) 2) of_neither of_stock)) (back j)
      ∙ ap (λ (b : Bool). cond (ltb 0 (cond b (nth s.writebackclaim j) (nth s.claim j))) of_claim (cond b of_neither of_stock)) e
      ∙ ap (λ (n : ℕ). cond (ltb 0 n) of_claim (cond w of_neither of_stock)) h

  -- an access, with claim and without; and a writeback
  access_word : nth o (j + 1) ≡ 1 → word_of s o (j + 1) ≡ cond (ltb 0 (nth s.claim j)) of_claim of_stock
  access_word e = domain_word false (ne_eqb (nth o (j + 1)) 2 (λ z. omega arith)) _ refl

  writeback_word : nth o (j + 1) ≡ 2 → word_of s o (j + 1) ≡ cond (ltb 0 (nth s.writebackclaim j)) of_claim of_neither
  writeback_word e = domain_word true (eq-eqb _ 2 e) _ refl

-- a slot that is decided
module _ (s : State) (o : List ℕ) (room : ℕ) (e : slot_refusal s o room ≡ 0) where
  abbrev answer : Answer
  answer = slot_of s o room

  -- what the rules gave number n, where its verdict is v
  abbrev Due : ℕ → ℕ → Type 0
  Due n v = Reason s o (verdicts s o) answer n v (cause_at s o n v)

  whole : Adds s
  whole = adds s (slot_taken s o room e).adds

  -- an offer that is made and is no writeback is an access
  access : (n : ℕ) → n ≤ 16 → nth o n ≢ 0 → nth o n ≢ 2 → nth o n ≡ 1
  access n h p q = omega (arith, ltb-false 2 (nth o n) (none_at (above_two o) 17 n (slot_taken s o room e).offered.kinds (omega arith)))

  -- who is granted makes an offer
  granted_offers : granted s o ≢ 17 → nth o (granted s o) ≢ 0
  unfolding granted
  granted_offers h = go (ask_passes (passes s o) s.turn 17 whole.balanced.turn)
    where
      go : (granted s o ≡ 17) ⊎ ((granted s o ≤ 16) × (passes s o (granted s o) ≡ true)) → nth o (granted s o) ≢ 0
      go (inl q) = absurd (h q)
      go (inr r) = passing_offers s o (granted s o) r.1

  -- verdict 1
  left : (t : State) (n : ℕ) → decided_of s o (granted s o) ≡ onward t n (steps_of s o)
      → Leaves answer t.claim t.writebackclaim t.stock t.reserved t.reclaimed t.writebacks t.best
  left t n q =
      subst (λ (a : Answer). Leaves a t.claim t.writebackclaim t.stock t.reserved t.reclaimed t.writebacks t.best)
      (sym (slot_decided s o room e ∙ ap (λ (u : State). ended u (steps_of s o)) q)) (leaves (onward t n (steps_of s o)) (steps_of s o))

  abbrev Passed : ℕ → Word → Type 0
  Passed n w = Reason s o (verdicts s o) answer n 1 (word w)

  told_granted : (g : ℕ) → Granted s o g → g ≢ 17 → nth o g ≢ 0 → granted s o ≡ g → Due g 1
  unfolding cause_at cause_from word_for
  told_granted g (to_none p) h f q = absurd (h refl)
  told_granted g (to_best p) h f q =
      best_neither f (left (on_neither s s.idle (s.best + 1)) 0 (ap (decided_of s o) q ∙ decided_best s o))
  told_granted g (on_claim_lem j i k c) h f q =
      let a = access (j + 1) (omega arith) f k in
      subst (Passed (j + 1)) (sym (access_word s o j a ∙ hit _ _ _ (lt-ltb 0 (nth s.claim j) c)))
      (access_claim j a c (left (on_claim s j) (j + 1) (ap (decided_of s o) q ∙ decided_claim s o j i k c)))
  told_granted g (on_stock_lem j i k c r z b) h f q =
      let a = access (j + 1) (omega arith) f k in
      subst (Passed (j + 1)) (sym (access_word s o j a ∙ miss _ _ _ (le-ltb 0 (nth s.claim j) (omega arith))))
      (access_stock j a c (omega (arith, z)) (left (on_stock s j) (j + 1) (ap (decided_of s o) q ∙ decided_stock s o j i k c)))
  told_granted g (on_writeback_lem j i k l true c b) h f q =
      subst (Passed (j + 1)) (sym (writeback_word s o j k ∙ hit _ _ _ c))
      (writeback_claim j k (ltb-true 0 (nth s.writebackclaim j) c)
      (left (on_writeback s j true) (j + 1) (ap (decided_of s o) q ∙ decided_writeback s o j i k true c)))
  told_granted g (on_writeback_lem j i k l false c b) h f q =
      subst (Passed (j + 1)) (sym (writeback_word s o j k ∙ miss _ _ _ c))
      (writeback_neither j k (omega (arith, ltb-false 0 (nth s.writebackclaim j) c))
      (left (on_writeback s j false) (j + 1) (ap (decided_of s o) q ∙ decided_writeback s o j i k false c)))

  -- verdict 2
  told_passing : (n : ℕ) → n ≤ 16 → n ≢ granted s o → ruling_of s o n ≡ 2 → Due n 2
  unfolding cause_at cause_from
  told_passing n h d q =
      let t = whole.balanced.turn in
      let g = some_granted s o t n h (eq-eqb _ 2 q) in
      other_granted n (granted s o) (passing_offers s o n (eq-eqb _ 2 q)) (λ z. d (sym z))
      (verdict_granted s o (omega (arith, g, granted_most s o t)))

  -- verdict 6
  told_blocked : (n : ℕ) → nth o n ≢ 0
      → (n ≡ 0) ⊎ (claim_of (nth o n) (nth s.claim (n - 1)) (nth s.writebackclaim (n - 1)) ≡ 0) → blocked s o ≡ true → Due n 6
  unfolding cause_at cause_from blocked
  told_blocked n f h b =
      let x = and_both (le_z (loose s) (pos 0)) (some_below (waiting s o) 16) b in
      let l = lowest_is (waiting s o) 0 16 in
      let k = ltb-true (lowest (waiting s o) 16) 16 (lowest_some (waiting s o) 16 (lowest (waiting s o) 16) refl ∙ x.1) in
      held_back n (lowest (waiting s o) 16) f h x.0 k (l.holds (omega (arith, k))) (λ i q. l.before i (omega arith) q)

  -- best effort, and the domain at index j
  told_best : 0 ≢ granted s o → (r : ℕ) → ruling_of s o 0 ≡ r → Line (eqb (nth o 0) 0) false false false false (blocked s o) r → Due 0 r
  unfolding cause_at cause_from
  told_best d r q (line_0 x) = no_offer 0 (eqb-true _ 0 x)
  told_best d r q (line_3 x) = absurd (false≢true x)
  told_best d r q (line_4 n y x) = absurd (false≢true x)
  told_best d r q (line_5 n y z x) = absurd (false≢true x)
  told_best d r q (line_6 n y x) = told_blocked 0 (eqb-false _ 0 n) (inl refl) x
  told_best d r q line_claim = told_passing 0 (omega arith) d q
  told_best d r q line_other = told_passing 0 (omega arith) d q

  abbrev DomainLine : ℕ → ℕ → Type 0
  DomainLine j r =
      Line (eqb (nth o (j + 1)) 0) (at_cap (nth o (j + 1)) (nth s.writebacks j) (nth s.plan.writebackcap j))
      (ltb 0 (claim_of (nth o (j + 1)) (nth s.claim j) (nth s.writebackclaim j)))
      (not (eqb (nth o (j + 1)) 2) && eqb (nth s.reclaimed j) (nth s.plan.reclaimcap j))
      (not (eqb (nth o (j + 1)) 2) && eqb s.stock 0) (blocked s o) r

  line_domain : (j : ℕ) → DomainLine j (ruling_at s o j)
  unfolding ruling_at
  line_domain j = line _ _ _ _ _ _

  module _ (j : ℕ) (h : j < 16) (d : j + 1 ≢ granted s o) where
    abbrev claim : ℕ
    claim = claim_of (nth o (j + 1)) (nth s.claim j) (nth s.writebackclaim j)

    no_claim : ltb 0 claim ≡ false → claim ≡ 0
    no_claim x = omega (arith, ltb-false 0 claim x)

    -- a test that only an access is held to: it is an access, without access claim
    of_access : (b : Bool) → eqb (nth o (j + 1)) 0 ≡ false → ltb 0 claim ≡ false → (not (eqb (nth o (j + 1)) 2) && b) ≡ true
        → (nth o (j + 1) ≡ 1) × (nth s.claim j ≡ 0) × (b ≡ true)
    of_access b n y x =
        let p = and_both (not (eqb (nth o (j + 1)) 2)) b x in
        let w = not-true (eqb (nth o (j + 1)) 2) p.0 in
        let c : nth s.claim j ≡ 0 = sym (miss _ _ _ w) ∙ no_claim y in
        (access (j + 1) (omega arith) (eqb-false _ 0 n) (eqb-false _ 2 w), c, p.1)

    told_domain : (r : ℕ) → ruling_of s o (j + 1) ≡ r → DomainLine j r → Due (j + 1) r
    unfolding cause_at cause_from at_cap
    told_domain r q (line_0 x) = no_offer (j + 1) (eqb-true _ 0 x)
    told_domain r q (line_3 x) =
        let y = and_both (eqb (nth o (j + 1)) 2) (eqb (nth s.writebacks j) (nth s.plan.writebackcap j)) x in
        let c : nth s.plan.writebackcap j ≡ nth s.plan.writebackcap (j + 1 - 1) = ap (nth s.plan.writebackcap) (sym (back j)) in
        writebacks_full j (nth s.plan.writebackcap (j + 1 - 1)) (eqb-true _ 2 y.0) c (eqb-true _ _ y.1 ∙ c)
    told_domain r q (line_4 n y x) =
        let a = of_access _ n y x in
        let c : nth s.plan.reclaimcap j ≡ nth s.plan.reclaimcap (j + 1 - 1) = ap (nth s.plan.reclaimcap) (sym (back j)) in
        reclaimed_full j (nth s.plan.reclaimcap (j + 1 - 1)) a.0 a.1 c (eqb-true _ _ a.2 ∙ c)
    told_domain r q (line_5 n y z x) =
        let b = whole.balanced in
        let a = of_access _ n y x in
        let k = eqb-true s.stock 0 a.2 in
        let w : eqb (nth o (j + 1)) 2 ≡ false = ne_eqb (nth o (j + 1)) 2 (λ t. omega (arith, a.0)) in
        let m : eqb (nth s.reclaimed j) (nth s.plan.reclaimcap j) ≡ false = rw w at z in
        stock_empty j (sum s.yielded) (sum s.reclaimed) a.0 a.1
        (omega (arith, eqb-false (nth s.reclaimed j) (nth s.plan.reclaimcap j) m, (b.domain j h).reclaims)) k refl refl
        (omega (arith, k, b.pool))
    told_domain r q (line_6 n y x) =
        told_blocked (j + 1) (eqb-false _ 0 n)
        (inr (ap (λ (i : ℕ). claim_of (nth o (j + 1)) (nth s.claim i) (nth s.writebackclaim i)) (back j) ∙ no_claim y)) x
    told_domain r q line_claim = told_passing (j + 1) (omega arith) d q
    told_domain r q line_other = told_passing (j + 1) (omega arith) d q

  told_other : (n : ℕ) → n ≤ 16 → n ≢ granted s o → Due n (ruling_of s o n)
  told_other n h d = go (ℕ_discrete n 0)
    where
      go : Dec (n ≡ 0) → Due n (ruling_of s o n)
      go (yes q) =
          subst (λ (m : ℕ). Due m (ruling_of s o m)) (sym q)
          (told_best (λ z. d (q ∙ z)) (ruling_of s o 0) refl
          (subst (Line (eqb (nth o 0) 0) false false false false (blocked s o)) (sym (ruling_best s o)) (line _ _ _ _ _ _)))
      go (no q) =
          let j = n - 1 in
          let m : n ≡ j + 1 = omega arith in
          subst (λ (i : ℕ). Due i (ruling_of s o i)) (sym m)
          (told_domain j (omega arith) (λ z. d (m ∙ z)) (ruling_of s o (j + 1)) refl
          (subst (DomainLine j) (sym (ruling_domain s o j)) (line_domain j)))

  told : (n : ℕ) → n ≤ 16 → Due n (nth (verdicts s o) n)
  told n h = go (ℕ_discrete n (granted s o))
    where
      go : Dec (n ≡ granted s o) → Due n (nth (verdicts s o) n)
      go (yes q) =
          subst (λ (m : ℕ). Due m (nth (verdicts s o) m)) (sym q)
          (subst (Due (granted s o)) (sym (verdict_granted s o (omega arith)))
          (told_granted (granted s o) (granted_to s o whole.balanced.turn) some (granted_offers some) refl))
        where
          some : granted s o ≢ 17
          some z = omega arith
      go (no q) = subst (Due n) (sym (verdict_other s o n (omega arith) q)) (told_other n h q)

  -- the number with verdict 1 is the granted one
  one_told : (n : ℕ) → nth (verdicts s o) n ≡ 1 → n ≡ granted s o
  one_told n q = go (ℕ_discrete n (granted s o))
    where
      go : Dec (n ≡ granted s o) → n ≡ granted s o
      go (yes d) = d
      go (no d) =
          let h = verdict_number s o n (λ z. omega arith) in
          absurd (never_one s o n (sym (verdict_other s o n (omega arith) d) ∙ q))

  -- where the reason of a cause holds, it is the cause
  only : (n v : ℕ) (c : Cause) → Reason s o (verdicts s o) answer n v c → c ≡ cause_at s o n v
  unfolding cause_at cause_from word_for
  only n v c (no_offer i f) = refl
  only n v c (access_claim j a p l) = ap word (sym (access_word s o j a ∙ hit _ _ _ (lt-ltb 0 (nth s.claim j) p)))
  only n v c (writeback_claim j a p l) = ap word (sym (writeback_word s o j a ∙ hit _ _ _ (lt-ltb 0 (nth s.writebackclaim j) p)))
  only n v c (access_stock j a p z l) = ap word (sym (access_word s o j a ∙ miss _ _ _ (le-ltb 0 (nth s.claim j) (omega arith))))
  only n v c (writeback_neither j a p l) = ap word (sym (writeback_word s o j a ∙ miss _ _ _ (le-ltb 0 (nth s.writebackclaim j) (omega arith))))
  only n v c (best_neither f l) = refl
  only n v c (other_granted i m f d q) = ap number (one_told m q)
  only n v c (writebacks_full j W a q r) = ap cap (sym q ∙ ap (nth s.plan.writebackcap) (sym (back j)))
  only n v c (reclaimed_full j R a p q r) = ap cap (sym q ∙ ap (nth s.plan.reclaimcap) (sym (back j)))
  only n v c (stock_empty j y r a p q z x w b) = ap₂ totals (sym x) (sym w)
  only n v c (held_back i k f h l g w b) =
      ap (λ (m : ℕ). loose_and (loose s) (m + 1))
      (sym (lowest_at (waiting s o) 0 16 k (omega arith) (omega arith) w (λ m x y. b m y)))

pub cause_is_true : CauseIsTrue
cause_is_true s o b e n h =
    let r = sym (slot_number s o (length b)) ∙ e in
    subst (λ (v : List ℕ). TrueCause s o v (slot_of s o (length b)) n) (sym (shown_decided s o b r))
    (record { holds = told s o (length b) r n h; only = only s o (length b) r n (nth (verdicts s o) n) })
