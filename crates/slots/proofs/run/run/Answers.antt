-- `slots::run::run` meets its contract.
-- Assumes nothing.
use mathlib.Core.Path.{◌≡◌, sym, ap}
use Rattle.regulator.specs.declared.state.State.{State}
use Rattle.kept.specs.Numbers.{Of, rest_of}
use Rattle.kept.specs.declared.deciding.Limits.{Limits}
use Rattle.slots.proofs.Laws.Running.{running_none, running_ready, running_more}
use Rattle.slots.proofs.run.run.Goals as goal

-- A state has the period and the caps of its own plan.
of_own : (s : State) (l : Limits) → l ≡ record { period = s.plan.period; reclaimcap = s.plan.reclaimcap; writebackcap = s.plan.writebackcap }
    → Of (rest_of s) l.period l.reclaimcap l.writebackcap
of_own s l e =
    record {
      period_is = ap (λ (k : Limits). k.period) (sym e);
      reclaimcap_is = ap (λ (k : Limits). k.reclaimcap) (sym e);
      writebackcap_is = ap (λ (k : Limits). k.writebackcap) (sym e);
    }

pub loop-offers-init : goal.loop-offers-init
loop-offers-init c =
    let p = c.requires in
    rw c.of-limits.ensures (running_none _ _ _ _ _ _ _ _ p.from_in_bounds p.kept p.sound.1)

pub slot-numbers-requires-clause-ready : goal.slot-numbers-requires-clause-ready
slot-numbers-requires-clause-ready c =
    running_ready _ _ _ _ _ _ _ _ _ _ _ c.loop-offers.invariant _
    (of_own c.args.s _ c.of-limits.ensures) c.allowed_of-allowed.ensures c.requires.sound.0

pub loop-offers-preserved : goal.loop-offers-preserved
loop-offers-preserved c =
    let line = c.in-Some.ensures in
    running_more _ _ _ _ _ _ _ _ _ _ _ c.loop-offers.invariant _
    (of_own c.args.s _ c.of-limits.ensures) c.allowed_of-allowed.ensures c.requires.sound.0
    _ _ line.within line.head line.offered line.plain _ _ c.slot-numbers.ensures.kept c.slot-numbers.ensures.decided

pub returns : goal.returns
returns c = c.loop-offers.invariant.carries _ (of_own c.args.s _ c.of-limits.ensures) c.allowed_of-allowed.ensures c.requires.sound.0
