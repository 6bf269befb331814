-- One slot: what its masks tell of the number picked, and the state after each kind of grant.
-- Assumes nothing.
use mathlib.Core.Path.{◌≡◌, refl, sym, ap, ap₂, ◌∙◌}
use mathlib.Core.Logic.{◌≢◌, ◌⊎◌, inl, inr}
use mathlib.Core.Bool.{Bool, true, false, not, ◌&&◌, false≢true}
use mathlib.Core.List.{List}
use Prim.Native.Nat.{ℕ, zero, suc, ◌+◌, ◌-◌, ◌%◌, ◌<◌, ◌≤◌}
use native.Mathlib.Omega.{arith}
use lib.Dec.{eqb, leb}
use borrow.Author.Tests.{ne_eqb, ltb-true}
use Rattle.table.specs.Sums.{nth}
use Rattle.table.proofs.Tables.{miss, hit}
use Rattle.bits.specs.Bits.{bit}
use Rattle.regulator.specs.Verdict.{blocked}
use Rattle.regulator.specs.Turn.{after, ask, distance, granted, steps_of}
use Rattle.regulator.specs.Grant.{grant, onward}
use Rattle.regulator.specs.declared.state.State.{State}
use Rattle.regulator.proofs.Laws.Asking.{ask_passes}
use Rattle.regulator.proofs.Laws.Deciding.{grant_none, grant_best}
use Rattle.engine.specs.Masks.{lowest_bit}
use Rattle.engine.specs.Inner.{Given, Marked, wait_at, free_at, pass_at, picked_of}
use Rattle.engine.specs.declared.turn.Picked.{Picked}
use Rattle.engine.proofs.Laws.Lowest.{lowest_asked}
use Rattle.engine.proofs.Laws.Rulings.{blocked_is, passing_is, picked_is}
use Rattle.kept.specs.declared.tables.Tables.{Tables}
use Rattle.kept.specs.Numbers.{Rest, state_of, Of, Kept, Ready}
use Rattle.kept.specs.Grant.{Fit, Gives, rested, served}
use Rattle.kept.specs.Deciding.{Decided}
use Rattle.kept.specs.declared.numbers.Numbers.{Numbers}

-- What a slot has worked out before its grant: who waits on claim, whether the others are blocked, who passes, and who is picked.
pub record Worked (period access writeback : ℕ) (f : Numbers) (wait : ℕ) (b : Bool) (m : ℕ) (g : Picked) : Type 0 where
  pub wait_small : wait < 131072
  pub wait_bits : (n : ℕ) → bit wait n ≡ wait_at (bit access n) (bit writeback n) (bit f.masks.has n) (bit f.masks.back n)
  pub block_is : b ≡ (leb period f.spoken && not (eqb wait 0))
  pub pass_bits : (n : ℕ) → bit m n
      ≡ pass_at (bit wait n) (free_at (eqb n 0) (bit access n) (bit writeback n) (bit f.masks.may n) (bit f.masks.room n) (not (eqb f.stock 0))) b
  pub pick_is : g ≡ picked_of m f.turn

-- A domain that passes without writeback and without claim may reclaim, and there is stock; one that passes with a writeback has room, if
-- writeback claim is held only with room.
reclaims : (a q m r s b : Bool) → pass_at (wait_at a false false q) (free_at false a false m r s) b ≡ true → (m ≡ true) × (s ≡ true)
reclaims true q true r true b e = (refl, refl)
reclaims true q true r false true e = absurd (false≢true e)
reclaims true q true r false false e = absurd (false≢true e)
reclaims true q false r s true e = absurd (false≢true e)
reclaims true q false r s false e = absurd (false≢true e)
reclaims false q m r s true e = absurd (false≢true e)
reclaims false q m r s false e = absurd (false≢true e)

has_room : (h q m r s b : Bool) → pass_at (wait_at false true h q) (free_at false false true m r s) b ≡ true → (q ≡ true → r ≡ true) → r ≡ true
has_room h true m r s b e i = i refl
has_room h false m true s b e i = refl
has_room h false m false s true e i = absurd (false≢true e)
has_room h false m false s false e i = absurd (false≢true e)

-- no slot has more than 17 steps
distance_most : (turn n : ℕ) → distance turn n ≤ 17
distance_most turn n = go (eqb n 17) refl
  where
    go : (b : Bool) → eqb n 17 ≡ b → distance turn n ≤ 17
    go true e = omega (arith, hit (eqb n 17) 17 ((n + 17 - turn) % 17) e)
    go false e = omega (arith, miss (eqb n 17) 17 ((n + 17 - turn) % 17) e)

not_zero : (x : ℕ) → not (eqb x 0) ≡ true → 0 < x
not_zero zero e = absurd (false≢true e)
not_zero (suc x) e = omega arith

module _ {reclaimcap writebackcap : List ℕ} {f : Numbers} {t : Tables} {period access writeback wait m : ℕ} {b : Bool} {g : Picked}
    (kept : Kept reclaimcap writebackcap f t) (ready : Ready reclaimcap writebackcap f t)
    (v : Worked period access writeback f wait b m g) where
  number_is : g.number ≡ ask (bit m) f.turn 17
  number_is = ap (λ (p : Picked). p.number) v.pick_is ∙ lowest_asked m f.turn ready.turn_small

  -- the number picked passes, unless it is 17
  pub picked_passes : g.number ≢ 17 → (g.number ≤ 16) × (bit m g.number ≡ true)
  picked_passes h = go (ask_passes (bit m) f.turn 17 ready.turn_small)
    where
      go : (ask (bit m) f.turn 17 ≡ 17) ⊎ ((ask (bit m) f.turn 17 ≤ 16) × (bit m (ask (bit m) f.turn 17) ≡ true))
          → (g.number ≤ 16) × (bit m g.number ≡ true)
      go (inl e) = absurd (h (number_is ∙ e))
      go (inr e) = (omega (arith, number_is, e.0), ap (bit m) number_is ∙ e.1)

  pub picked_steps : g.steps ≤ 17
  picked_steps = omega (arith, ap (λ (p : Picked). p.steps) v.pick_is, distance_most f.turn (lowest_bit m f.turn))

  -- domain n passes, and offers one kind at most
  module _ (n : ℕ) (lo : n ≢ 0) (passing : bit m n ≡ true) (apart : (bit access n && bit writeback n) ≡ false) where
    passed : pass_at (wait_at (bit access n) (bit writeback n) (bit f.masks.has n) (bit f.masks.back n))
        (free_at false (bit access n) (bit writeback n) (bit f.masks.may n) (bit f.masks.room n) (not (eqb f.stock 0))) b ≡ true
    passed = rw (v.wait_bits n, ne_eqb n 0 lo) at (sym (v.pass_bits n) ∙ passing)

    below : bit f.masks.back n ≡ true → bit f.masks.room n ≡ true
    below q =
        let i : n ≡ (n - 1) + 1 = omega (arith, lo) in
        let c = ltb-true 0 _ (sym (kept.marked.back_at (n - 1)) ∙ sym (ap (bit f.masks.back) i) ∙ q) in
        ap (bit f.masks.room) i ∙ kept.marked.room_at (n - 1) ∙ ap not (ne_eqb _ _ (ready.below (n - 1) c))

    unread : bit writeback n ≡ true → bit access n ≡ false
    unread e = go (bit access n) refl
      where
        go : (a : Bool) → bit access n ≡ a → a ≡ false
        go true q = absurd (false≢true (sym apart ∙ ap₂ ◌&&◌ q e))
        go false q = refl

    pub fits : Fit f n (bit writeback n)
    fits =
        record {
          may_reclaim = λ e h.
              let r = reclaims (bit access n) (bit f.masks.back n) (bit f.masks.may n) (bit f.masks.room n) (not (eqb f.stock 0)) b (rw (e, h) at passed) in
              (r.0, not_zero f.stock r.1);
          has_room = λ e.
              has_room (bit f.masks.has n) (bit f.masks.back n) (bit f.masks.may n) (bit f.masks.room n) (not (eqb f.stock 0)) b
              (rw (e, unread e) at passed) below;
        }

  -- who is picked is who the regulator grants, for whatever else the state holds
  module _ (time : f.decided < period) (x : Rest) (o : List ℕ) (of : Of x period reclaimcap writebackcap) (given : Given o access writeback) where
    abbrev s : State
    s = state_of x f t

    marked : Marked t.claim t.writebackclaim t.reclaimed t.writebacks x.plan.reclaimcap x.plan.writebackcap f.masks.has f.masks.back f.masks.may f.masks.room
    marked = rw (of.reclaimcap_is, of.writebackcap_is) kept.marked

    held : (k : ℕ) → 0 < nth t.writebackclaim k → nth t.writebacks k ≢ nth x.plan.writebackcap k
    held = rw of.writebackcap_is ready.below

    blocks : b ≡ blocked s o
    blocks =
        v.block_is
        ∙ ap₂ (λ (p q : ℕ). leb p q && not (eqb wait 0)) (sym of.period_is) kept.spoken_is
        ∙ blocked_is s o access writeback f.masks.has f.masks.back f.masks.may f.masks.room given marked held wait v.wait_bits v.wait_small (omega (arith, of.period_is))

    picked : (g.number ≡ granted s o) × (g.steps ≡ steps_of s o)
    picked =
        let pass = passing_is s o access writeback f.masks.has f.masks.back f.masks.may f.masks.room given marked held wait v.wait_bits m b blocks v.pass_bits in
        let p = picked_is s o m (λ n h. pass n) ready.turn_small in
        (ap (λ (q : Picked). q.number) v.pick_is ∙ p.0, ap (λ (q : Picked). q.steps) v.pick_is ∙ p.1)

  pub to_decided : f.decided < period → {r : Numbers} {t' : Tables} → Gives writeback g.number g.steps f t r t'
      → Decided period access writeback reclaimcap writebackcap f t r t'
  to_decided time gives =
      record {
        state = λ x o of given.
            let p = picked time x o of given in
            gives.state x o (given.writeback_at g.number) ∙ ap₂ (λ (n k : ℕ). onward (grant (state_of x f t) o n) n k) p.0 p.1;
      }

-- nobody and best effort: the masks stay, and what is spoken for rises with the slots decided
module _ {reclaimcap writebackcap : List ℕ} {f : Numbers} {t : Tables} (kept : Kept reclaimcap writebackcap f t) (steps : ℕ) where
  pub rested_kept : Kept reclaimcap writebackcap (rested f steps) t
  rested_kept = record { marked = kept.marked; spoken_is = omega (arith, kept.spoken_is) }

  pub served_kept : Kept reclaimcap writebackcap (served f steps) t
  served_kept = record { marked = kept.marked; spoken_is = omega (arith, kept.spoken_is) }

module _ (writeback n steps : ℕ) (f : Numbers) (t : Tables) where
  pub rested_gives : n ≡ 17 → Gives writeback n steps f t (rested f steps) t
  rested_gives e =
      record {
        state = λ x o w.
            ap (λ (y : State). onward y 17 steps) (sym (grant_none (state_of x f t) o))
            ∙ ap (λ (k : ℕ). onward (grant (state_of x f t) o k) k steps) (sym e);
      }

  pub served_gives : n ≡ 0 → Gives writeback n steps f t (served f steps) t
  unfolding after
  served_gives e =
      record {
        state = λ x o w.
            ap (λ (y : State). onward y 0 steps) (sym (grant_best (state_of x f t) o))
            ∙ ap (λ (k : ℕ). onward (grant (state_of x f t) o k) k steps) (sym e);
      }
