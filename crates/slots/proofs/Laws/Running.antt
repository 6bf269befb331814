-- The loop over slot lines: what holds between two of them.
-- Assumes nothing.
use mathlib.Core.Path.{◌≡◌, sym, subst}
use mathlib.Core.List.{List}
use Prim.Native.Nat.{ℕ, ◌+◌, ◌-◌, ◌≤◌, ◌<◌}
use native.Mathlib.Omega.{arith}
use lib.ListN.{length}
use Rattle.table.specs.Sums.{nth}
use Rattle.table.proofs.Filling.{values_length}
use Rattle.regulator.proofs.Laws.Keeping.{Kept as Sound}
use Rattle.digits.specs.Lanes.{Offered}
use Rattle.engine.specs.Inner.{Given}
use Rattle.kept.specs.declared.numbers.Numbers.{Numbers}
use Rattle.kept.specs.declared.tables.Tables.{Tables}
use Rattle.kept.specs.Numbers.{Rest, state_of, Of, Kept, Ready}
use Rattle.kept.specs.Deciding.{Decided}
use Rattle.kept.proofs.Laws.Readying.{ready, still_sound, next_decided}
use Rattle.slots.specs.Lines.{offers_at, Head, SlotLine, Decides, Carries}
use Rattle.slots.specs.Inner.{Allowed, Plain}
use Rattle.slots.proofs.Laws.Offering.{given, taken, decided, carries_none, carries_more}

-- For whatever else the state holds, which the loop does not read: from a sound state the state is sound, and got by the lines.
pub record Running (part : List ℕ) (period allowed : ℕ) (reclaimcap writebackcap : List ℕ) (f₀ : Numbers) (t₀ : Tables) (from : ℕ) (f : Numbers) (t : Tables) (at : ℕ) : Type 0 where
  pub within : at ≤ length part
  pub kept : Kept reclaimcap writebackcap f t
  pub time : f.decided < period
  pub sound : (x : Rest) → Of x period reclaimcap writebackcap → Allowed x.plan allowed → Sound (state_of x f₀ t₀) → Sound (state_of x f t)
  pub carries : (x : Rest) → Of x period reclaimcap writebackcap → Allowed x.plan allowed → Sound (state_of x f₀ t₀)
      → Carries part (state_of x f₀ t₀) from (state_of x f t) at

module _ (part : List ℕ) (period allowed : ℕ) (reclaimcap writebackcap : List ℕ) (f₀ : Numbers) (t₀ : Tables) (from : ℕ) where
  pub running_none : from ≤ length part → Kept reclaimcap writebackcap f₀ t₀ → f₀.decided < period
      → Running part period allowed reclaimcap writebackcap f₀ t₀ from f₀ t₀ from
  running_none h k l = record { within = h; kept = k; time = l; sound = λ x o a s. s; carries = λ x o a s. carries_none part (state_of x f₀ t₀) from h }

  module _ (f : Numbers) (t : Tables) (at : ℕ) (v : Running part period allowed reclaimcap writebackcap f₀ t₀ from f t at)
      (x₀ : Rest) (of₀ : Of x₀ period reclaimcap writebackcap) (al₀ : Allowed x₀.plan allowed) (start₀ : Sound (state_of x₀ f₀ t₀)) where
    pub running_ready : Ready reclaimcap writebackcap f t
    running_ready = ready of₀ (v.sound x₀ of₀ al₀ start₀) v.time v.kept

    pub running_more : (access writeback : ℕ) → at + 20 ≤ length part → Head part at → Offered part (at + 2) access writeback
        → Plain f period allowed access writeback → (g : Numbers) (u : Tables) → Kept reclaimcap writebackcap g u
        → Decided period access writeback reclaimcap writebackcap f t g u
        → Running part period allowed reclaimcap writebackcap f₀ t₀ from g u (at + 20)
    running_more access writeback room head offered plain r u kept d =
        record {
          within = room;
          kept = kept;
          time =
              omega (
                arith,
                v.time,
                plain.more,
                next_decided of₀ (v.sound x₀ of₀ al₀ start₀) g d,
              );
          sound = λ x of al start. still_sound of (v.sound x of al start) g d;
          carries = λ x of al start. carries_more part (state_of x f₀ t₀) from (state_of x f t) at (v.carries x of al start) (state_of x r u) room line (step x of al start);
        }
      where
        o : List ℕ
        o = offers_at part (at + 2)

        g : Given (offers_at part (at + 2)) access writeback
        g = given part (at + 2) access writeback offered

        line : SlotLine part at
        line = record { head = head; digits = λ n h. ((offered.each n h).low, (offered.each n h).high) }

        long : length (offers_at part (at + 2)) ≡ 17
        long = values_length (λ (n : ℕ). nth part (at + 2 + n) - 48) 17

        step : (x : Rest) → Of x period reclaimcap writebackcap → Allowed x.plan allowed → Sound (state_of x f₀ t₀)
            → Decides (state_of x f t) (offers_at part (at + 2)) (state_of x r u)
        step x of al start =
            subst (Decides (state_of x f t) (offers_at part (at + 2))) (sym (d.state x (offers_at part (at + 2)) of g))
            (decided (offers_at part (at + 2)) access writeback g long (state_of x f t) (v.sound x of al start) (omega (arith, v.time, of.period_is))
            plain.unfilled (λ z. plain.more (omega (arith, z, of.period_is)))
            (taken (offers_at part (at + 2)) access writeback g long x.plan allowed al plain.planned))
