-- A state that adds up gives what a slot asks of numbers and tables, and the slot gives such a state again.
-- Assumes nothing.
use mathlib.Core.Path.{◌≡◌, sym, ap, subst, ◌∙◌}
use mathlib.Core.Bool.{true}
use mathlib.Core.List.{List}
use Prim.Native.Nat.{ℕ, ◌+◌, ◌<◌, ◌≤◌}
use native.Mathlib.Omega.{arith}
use native.Mathlib.Decide.{dec_lt}
use lib.ListN.{length, get_or-eq_default}
use Rattle.table.specs.Sums.{nth}
use Rattle.regulator.specs.State.{adds_up, Shaped}
use Rattle.regulator.specs.declared.state.State.{State}
use Rattle.regulator.proofs.Laws.Adding.{small, claims_fit, adds}
use Rattle.regulator.proofs.Laws.Keeping.{Kept as Sound, slot_next}
use Rattle.engine.specs.Inner.{Given}
use Rattle.engine.proofs.Laws.Rulings.{below_caps}
use Rattle.kept.specs.declared.tables.Tables.{Tables}
use Rattle.kept.specs.Numbers.{Rest, state_of, Of, Kept, Ready}
use Rattle.kept.specs.Deciding.{Decided}
use Rattle.kept.specs.declared.numbers.Numbers.{Numbers}

pub sound_state : (s : State) → Shaped s → adds_up s ≡ true → Sound s
sound_state s h e = record { shape = h; balanced = (adds s e).balanced }

-- a list of sixteen is 0 past its end, so that a bound of its sixteen numbers holds everywhere
most_past : (l : List ℕ) → length l ≡ 16 → ((k : ℕ) → k < 16 → nth l k ≤ 4096) → (k : ℕ) → nth l k ≤ 4096
most_past l e h k = go (dec_lt k 16)
  where
    go : Dec (k < 16) → nth l k ≤ 4096
    go (yes q) = h k q
    go (no q) = omega (arith, get_or-eq_default l 0 {n = k} (omega (arith, e, q)))

module _ {x : Rest} {period : ℕ} {reclaimcap writebackcap : List ℕ} {f : Numbers} {t : Tables} (of : Of x period reclaimcap writebackcap)
    (sound : Sound (state_of x f t)) where
  pub ready : f.decided < period → Kept reclaimcap writebackcap f t → Ready reclaimcap writebackcap f t
  ready time kept =
      let s = state_of x f t in
      let b = sound.balanced in
      let l = sound.shape in
      let p : period ≤ 4096 = omega (arith, b.plan.small, of.period_is) in
      record {
        reclaimcap_long = ap length (sym of.reclaimcap_is) ∙ l.plan.reclaimcap;
        writebackcap_long = ap length (sym of.writebackcap_is) ∙ l.plan.writebackcap;
        claim_long = l.claim;
        reserved_long = l.reserved;
        reclaimed_long = l.reclaimed;
        writebacks_long = l.writebacks;
        writebackclaim_long = l.writebackclaim;
        reserved_small = most_past t.reserved l.reserved (λ k h. (small s b k h).reserved);
        reclaimed_small = most_past t.reclaimed l.reclaimed (λ k h. (small s b k h).reclaimed);
        writebacks_small = most_past t.writebacks l.writebacks (λ k h. (small s b k h).writebacks);
        below = λ k h e. below_caps s b l.writebackclaim k h (e ∙ ap (λ (y : List ℕ). nth y k) (sym of.writebackcap_is));
        turn_small = b.turn;
        time = omega arith;
        idle_small = omega (arith, b.spent);
        best_small = omega (arith, b.spent);
        steps_small = omega (arith, b.steps.high, b.spent);
        spoken_small = omega (arith, kept.spoken_is, claims_fit s b l, of.period_is);
      }

  module _ {access writeback : ℕ} {o : List ℕ} {r : Numbers} {t' : Tables} (given : Given o access writeback)
      (d : Decided period access writeback reclaimcap writebackcap f t r t') where
    -- the next slot has such a state again, with one slot more decided
    pub still_sound : Sound (state_of x r t')
    still_sound = subst Sound (sym (d.state x o of given)) (slot_next (state_of x f t) sound o).kept

    pub next_decided : r.decided ≡ f.decided + 1
    next_decided = ap (λ (y : State). y.decided) (d.state x o of given) ∙ (slot_next (state_of x f t) sound o).decided
