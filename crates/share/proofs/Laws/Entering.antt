-- One call: what the ledger enters is what the returned state holds, and what is needed for the next call is kept.
-- Assumes nothing.
use mathlib.Core.Path.{◌≡◌, refl, sym, ap, ap₂, subst, ◌∙◌}
use mathlib.Core.Logic.{◌≢◌}
use mathlib.Core.Bool.{Bool, true, false, cond}
use mathlib.Core.List.{List}
use mathlib.Core.Option.{none, some}
use Prim.Native.Nat.{ℕ, ◌+◌, ◌-◌, ◌≤◌, ◌<◌}
use native.Mathlib.Decide.{ℕ_discrete}
use native.Mathlib.Omega.{arith}
use lib.Dec.{eqb}
use lib.ListN.{length}
use borrow.Author.Tests.{eq-eqb, ne_eqb, lt-ltb, le-ltb, ltb-true}
use Rattle.table.specs.Sums.{nth, raised}
use Rattle.table.proofs.Tables.{miss, hit}
use Rattle.table.proofs.Elements.{repeat_at, raised_length, moved}
use Rattle.plan.specs.Value.{Sized, reserved, plan_refusal}
use Rattle.plan.specs.declared.value.Plan.{Plan}
use Rattle.plan.proofs.Laws.Values.{accepted}
use Rattle.regulator.specs.Forecast.{no_estimates}
use Rattle.regulator.specs.declared.forecast.Tracked.{Tracked}
use Rattle.regulator.proofs.Laws.Forecasting.{claims_sum}
use Rattle.regulator.specs.State.{begun, yielding, handing}
use Rattle.regulator.specs.Turn.{granted, steps_of, verdicts}
use Rattle.regulator.specs.Grant.{decided_of}
use Rattle.regulator.specs.Close.{counts_of, next_plan, next_tracked, next_period, ended, Answer}
use Rattle.regulator.specs.Refusals.{slot_refusal, yield_refusal, hand_refusal}
use Rattle.regulator.specs.Calls.{slot_of, Yielding, Handing}
use Rattle.regulator.specs.declared.state.State.{State}
use Rattle.regulator.proofs.Laws.Ruling.{Granted, to_none, to_best, on_claim_lem, on_stock_lem, on_writeback_lem, granted_to, one_granted}
use Rattle.regulator.proofs.Laws.Refusing.{yield_taken, hand_taken}
use Rattle.regulator.proofs.Laws.Deciding.{decided_none, decided_best, decided_claim, decided_stock, decided_writeback, ended_open, ended_complete, slot_refused, slot_decided, slot_number, steps_told, shown_refused, shown_decided, yield_number, yield_refused, yield_given, hand_number, hand_refused, hand_given}
use Rattle.regulator.proofs.Laws.Keeping.{Kept, Next, slot_next, yielding_keeps, handing_keeps, Start, next_start, begun_keeps, open_start}
use Rattle.share.specs.Call.{Call, slot, yield, hand_in, SizedCall}
use Rattle.share.specs.Ledger.{refused_call, decided_slot, Page, Slot, Period, pass, writeback, passing, slot_entry, enter}
use Rattle.share.specs.Run.{Made, lent, made, taken, fed}
use Rattle.share.specs.Share.{PeriodShare, RefusedChangesNothing}
use Rattle.share.proofs.Laws.Reserving.{Past, nothing, Tallied, page_of, handed_of, period_of, slots_with, Safe, grant_safe, yield_safe, Whole, period_share}

-- the entry is what the decided slot leaves; the ledger holds a slot more, and what was entered on writeback claim is tallied
pub record Entered (p : Page) (t : State) (ms : List Slot) : Type 0 where
  pub past : Past
  pub slots : past.slots ≡ ms
  pub page : p ≡ page_of t past
  pub tallied : Tallied t past.claimedwritebacks

module _ (s : State) (m : Past) (kept : Kept s) (tally : Tallied s m.claimedwritebacks) (o : List ℕ) where
  -- number n is granted, and t is left
  abbrev To : ℕ → State → Type 0
  To n t = Entered (slot_entry (page_of s m) o n (steps_of s o)) t (slots_with s m o)

  into : (n : ℕ) (t : State) → decided_of s o n ≡ t → To n t → To n (decided_of s o n)
  into n t e x = subst (To n) (sym e) x

  -- where plan and writeback claims remain, so does what was entered on them
  same : (n : ℕ) (t : State) → slot_entry (page_of s m) o n (steps_of s o) ≡ page_of t m → t.writebackclaim ≡ s.writebackclaim → t.plan ≡ s.plan → To n t
  same n t e c q =
      record {
        past = record { slots = slots_with s m o; claimedwritebacks = m.claimedwritebacks };
        slots = refl;
        page = e;
        tallied = record { long = tally.long; all = λ j h. rw (c, q) (tally.all j h) };
      }

  -- what is entered of the domain at index j, and the tests of its number
  abbrev entered_pass : ℕ → Bool → Page
  entered_pass j on_claim = pass (page_of s m) j on_claim (steps_of s o)

  abbrev entered_writeback : ℕ → Bool → Page
  entered_writeback j on_claim = writeback (page_of s m) j on_claim (steps_of s o)

  module _ (j : ℕ) (h : j < 16) where
    not_idle : eqb (j + 1) 17 ≡ false
    not_idle = ne_eqb (j + 1) 17 (λ z. omega arith)

    not_best : eqb (j + 1) 0 ≡ false
    not_best = ne_eqb (j + 1) 0 (λ z. omega arith)

    index : j + 1 - 1 ≡ j
    index = omega arith

  entry_granted : (n : ℕ) → Granted s o n → To n (decided_of s o n)
  unfolding slot_entry
  entry_granted n (to_none p) = into 17 _ (decided_none s o) (same 17 _ refl refl refl)
  entry_granted n (to_best p) = into 0 _ (decided_best s o) (same 0 _ refl refl refl)
  entry_granted n (on_claim_lem j h w c) =
      into (j + 1) _ (decided_claim s o j h w c)
      (same (j + 1) _ (rw (not_idle j h, not_best j h, index j h, ne_eqb _ 2 w) (ap (entered_pass j) (lt-ltb 0 (nth s.claim j) c))) refl refl)
  entry_granted n (on_stock_lem j h w c r z b) =
      into (j + 1) _ (decided_stock s o j h w c)
      (same (j + 1) _ (rw (not_idle j h, not_best j h, index j h, ne_eqb _ 2 w) (ap (entered_pass j) (le-ltb 0 (nth s.claim j) (omega arith)))) refl refl)
  entry_granted n (on_writeback_lem j h w f false e b) =
      into (j + 1) _ (decided_writeback s o j h w false e)
      (same (j + 1) _ (rw (not_idle j h, not_best j h, index j h, eq-eqb _ 2 w) (ap (entered_writeback j) e)) refl refl)
  entry_granted n (on_writeback_lem j h w f true e b) =
      let l = m.claimedwritebacks in
      into (j + 1) _ (decided_writeback s o j h w true e)
      (record {
        past = record { slots = slots_with s m o; claimedwritebacks = raised l j 1 };
        slots = refl;
        page = rw (not_idle j h, not_best j h, index j h, eq-eqb _ 2 w) (ap (entered_writeback j) e);
        tallied = record {
          long = raised_length l j 1 ∙ tally.long;
          all = λ i hi.
              let up = moved s.writebackclaim l j 1 (omega (arith, kept.shape.writebackclaim)) (omega (arith, tally.long)) i (ltb-true 0 _ e) in
              omega (arith, up, tally.all i hi);
        };
      })

-- what holds when a call comes
pub record Ready (s : State) (m : Past) : Type 0 where
  pub whole : Whole s m
  pub below : s.decided < s.plan.period

pub begun_ready : (p : Plan) (l : List Tracked) → Start p l → (n t : ℕ) → t ≤ 16 → Ready (begun p n t l) nothing
unfolding reserved
begun_ready p l x n t h =
    let a = accepted p x.taken in
    record {
      whole = record {
        kept = begun_keeps p l x n t h;
        safe = λ j hj k c. omega (arith, a.sum, claims_sum p.reservation l x.sized.reservation);
        tallied = record { long = refl; all = λ j hj. omega (arith, repeat_at {A = ℕ} 16 j 0) };
      };
      below = a.one;
    }

pub open_ready : (p : Plan) → Sized p → (plan_refusal p).refused ≡ 0 → Ready (begun p 0 0 no_estimates) nothing
open_ready p z e = begun_ready p no_estimates (open_start p z e) 0 0 (omega arith)

pub next_ready : (t : State) → Kept t → Ready (next_period t) nothing
next_ready t k = begun_ready (next_plan t) (next_tracked t) (next_start t k) (t.closed + 1) t.turn k.balanced.turn

-- A call was made on s in the midst of a period: it leaves the period open, or it completes it.
pub data Step (s : State) (m : Past) (c : Made) : Type 0 where
  goes_on_lem : (t : State) (n : Past)
      → enter (period_of s m) (fed c) ≡ period_of t n
      → c.state ≡ t
      → c.counts ≡ none
      → Ready t n
      → Step s m c
  completes : (t : State) (n : Past)
      → enter (period_of s m) (fed c) ≡ period_of t n
      → c.state ≡ next_period t
      → c.counts ≡ some (counts_of t)
      → t.decided ≡ t.plan.period
      → PeriodShare (period_of t n)
      → Ready (next_period t) nothing
      → Step s m c

pub fed_refused : (m : Made) → m.refused ≢ 0 → fed m ≡ refused_call m.call
unfolding fed
fed_refused m h = miss _ _ _ (ne_eqb m.refused 0 h)

pub fed_taken : (m : Made) → m.refused ≡ 0 → fed m ≡ taken m.call m.shown m.steps
unfolding fed
fed_taken m h = hit _ _ _ (eq-eqb m.refused 0 h)

enter_refused : (q : Period) (m : Made) → m.refused ≢ 0 → enter q (fed m) ≡ q
unfolding enter
enter_refused q m h = ap (enter q) (fed_refused m h)

-- a refused call changes nothing
pub refused_changes_nothing : RefusedChangesNothing
unfolding made lent
refused_changes_nothing s (slot o b) h =
    let r : slot_refusal s o (length b) ≢ 0 = λ q. h (slot_number s o (length b) ∙ q) in
    let e = slot_refused s o (length b) r in
    record {
      state = ap (λ (a : Answer). a.state) e;
      buffer = shown_refused s o b r;
      counts = ap (λ (a : Answer). cond a.complete (some a.counts) none) e;
    }
refused_changes_nothing s (yield d k) h =
    record {
      state = ap (λ (a : Yielding). a.state) (yield_refused s d k (λ q. h (yield_number s d k ∙ q)));
      buffer = refl;
      counts = refl;
    }
refused_changes_nothing s (hand_in p) h =
    record {
      state = ap (λ (a : Handing). a.state) (hand_refused s p (λ q. h (hand_number s p ∙ q)));
      buffer = refl;
      counts = refl;
    }

module _ (s : State) (m : Past) (r : Ready s m) where
  abbrev kept : Kept s
  kept = r.whole.kept

  step_refused : (c : Call) → (made s c).refused ≢ 0 → Step s m (made s c)
  step_refused c h =
      let u = refused_changes_nothing s c h in
      goes_on_lem s m (enter_refused (period_of s m) (made s c) h) u.state u.counts r

  -- a decided slot
  module _ (o b : List ℕ) (e : slot_refusal s o (length b) ≡ 0) where
    abbrev next : State
    next = decided_of s o (granted s o)

    to : Granted s o (granted s o)
    to = granted_to s o kept.balanced.turn

    after_grant : Next s next
    after_grant = slot_next s kept o

    entry : Entered (slot_entry (page_of s m) o (granted s o) (steps_of s o)) next (slots_with s m o)
    entry = entry_granted s m kept r.whole.tallied o (granted s o) to

    whole_after : Whole next entry.past
    whole_after =
        record {
          kept = after_grant.kept;
          safe = subst (Safe next) (sym entry.slots) (grant_safe s m o kept r.below r.whole.safe (granted s o) to);
          tallied = entry.tallied;
        }

    slot_entered : enter (period_of s m) (fed (made s (slot o b))) ≡ period_of next entry.past
    unfolding made taken enter
    slot_entered =
        ap (enter (period_of s m))
        (fed_taken (made s (slot o b)) (slot_number s o (length b) ∙ e)
        ∙ ap₂ (decided_slot o b) (shown_decided s o b e) (steps_told s o (length b) e))
        ∙ (λ i. record { plan = sym after_grant.plan i; page = entered i; slots = sym entry.slots i; handed = handed_of (sym after_grant.waiting i); tracked = sym after_grant.tracked i })
      where
        entered : slot_entry (page_of s m) o (passing (verdicts s o)) (steps_of s o) ≡ page_of next entry.past
        entered = ap (λ (n : ℕ). slot_entry (page_of s m) o n (steps_of s o)) (one_granted s o kept.balanced.turn) ∙ entry.page

    step_slot : Step s m (made s (slot o b))
    unfolding made
    step_slot = go (ℕ_discrete next.decided next.plan.period)
      where
        a : slot_of s o (length b) ≡ ended next (steps_of s o)
        a = slot_decided s o (length b) e

        go : Dec (next.decided ≡ next.plan.period) → Step s m (made s (slot o b))
        go (yes q) =
            let x = a ∙ ended_complete next (steps_of s o) q in
            completes next entry.past slot_entered (ap (λ (a : Answer). a.state) x)
            (ap (λ (a : Answer). cond a.complete (some a.counts) none) x) q
            (period_share next entry.past whole_after)
            (next_ready next after_grant.kept)
        go (no q) =
            let x = a ∙ ended_open next (steps_of s o) q in
            goes_on_lem next entry.past slot_entered (ap (λ (a : Answer). a.state) x)
            (ap (λ (a : Answer). cond a.complete (some a.counts) none) x)
            (record {
              whole = whole_after;
              below = omega (arith, q, after_grant.decided, r.below, ap (λ (p : Plan). p.period) after_grant.plan);
            })

  -- a yield that is taken
  module _ (d k : ℕ) (e : yield_refusal s d k ≡ 0) where
    yield_entered : enter (period_of s m) (fed (made s (yield d k))) ≡ period_of (yielding s (d - 1) k) m
    unfolding made taken enter
    yield_entered = ap (enter (period_of s m)) (fed_taken (made s (yield d k)) (yield_number s d k ∙ e))

    step_yield : Step s m (made s (yield d k))
    unfolding made
    step_yield =
        let t = yield_taken s d k e in
        let i : d - 1 < 16 = omega (arith, t.low, t.high) in
        goes_on_lem (yielding s (d - 1) k) m yield_entered (ap (λ (a : Yielding). a.state) (yield_given s d k e)) refl
        (record {
          whole = record {
            kept = yielding_keeps s kept (d - 1) k i t.fits;
            safe = yield_safe s kept m.slots r.whole.safe (d - 1) k i t.fits;
            tallied = record { long = r.whole.tallied.long; all = r.whole.tallied.all };
          };
          below = r.below;
        })

  -- a plan handed in that is taken
  module _ (p : Plan) (z : Sized p) (e : (hand_refusal s p).refused ≡ 0) where
    hand_entered : enter (period_of s m) (fed (made s (hand_in p))) ≡ period_of (handing s p) m
    unfolding made taken enter
    hand_entered = ap (enter (period_of s m)) (fed_taken (made s (hand_in p)) (hand_number s p ∙ e))

    step_hand : Step s m (made s (hand_in p))
    unfolding made
    step_hand =
        goes_on_lem (handing s p) m hand_entered (ap (λ (a : Handing). a.state) (hand_given s p e)) refl
        (record {
          whole = record {
            kept = handing_keeps s kept p z (hand_taken s p e);
            safe = r.whole.safe;
            tallied = record { long = r.whole.tallied.long; all = r.whole.tallied.all };
          };
          below = r.below;
        })

  pub step : (c : Call) → SizedCall c → Step s m (made s c)
  unfolding made SizedCall
  step (slot o b) z = go (ℕ_discrete (slot_refusal s o (length b)) 0)
    where
      go : Dec (slot_refusal s o (length b) ≡ 0) → Step s m (made s (slot o b))
      go (yes q) = step_slot o b q
      go (no q) = step_refused (slot o b) (λ h. q (sym (slot_number s o (length b)) ∙ h))
  step (yield d k) z = go (ℕ_discrete (yield_refusal s d k) 0)
    where
      go : Dec (yield_refusal s d k ≡ 0) → Step s m (made s (yield d k))
      go (yes q) = step_yield d k q
      go (no q) = step_refused (yield d k) (λ h. q (sym (yield_number s d k) ∙ h))
  step (hand_in p) z = go (ℕ_discrete (hand_refusal s p).refused 0)
    where
      go : Dec ((hand_refusal s p).refused ≡ 0) → Step s m (made s (hand_in p))
      go (yes q) = step_hand p z q
      go (no q) = step_refused (hand_in p) (λ h. q (sym (hand_number s p) ∙ h))
