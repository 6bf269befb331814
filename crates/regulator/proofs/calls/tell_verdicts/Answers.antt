-- `regulator::calls::tell_verdicts` meets its contract.
-- Assumes nothing.
use mathlib.Core.Path.{◌≡◌, sym, ap, ap₂, ◌∙◌}
use mathlib.Core.List.{List}
use Prim.Native.Nat.{ℕ}
use native.Mathlib.Omega.{arith}
use lib.Dec.{eqb}
use lib.ListN.{length, set}
use Rattle.table.specs.Sums.{nth}
use Rattle.table.proofs.Filling.{values_length}
use Rattle.regulator.specs.Verdict.{ruling_of}
use Rattle.regulator.specs.Turn.{ask, granted, distance, verdicts}
use Rattle.regulator.proofs.Laws.Adding.{Adds, adds}
use Rattle.regulator.proofs.Laws.Refusing.{SlotTaken, slot_taken}
use Rattle.regulator.proofs.Laws.Ruling.{picked, steps_distance}
use borrow.Author.Rules.{rules}
use Rattle.regulator.proofs.calls.tell_verdicts.Goals as goal

pub is_blocked-blocked-requires-clause-decided_le_period : goal.is_blocked-blocked-requires-clause-decided_le_period
is_blocked-blocked-requires-clause-decided_le_period c =
    let taken : SlotTaken c.args.s c.args.offers.now (length c.args.verdicts.now) = slot_taken c.args.s c.args.offers.now (length c.args.verdicts.now) (search rules) in
    let sound : Adds c.args.s = adds c.args.s taken.adds in
    omega (arith, sound.below)

pub is_blocked-blocked-requires-clause-offers_len : goal.is_blocked-blocked-requires-clause-offers_len
is_blocked-blocked-requires-clause-offers_len c =
    let taken : SlotTaken c.args.s c.args.offers.now (length c.args.verdicts.now) = slot_taken c.args.s c.args.offers.now (length c.args.verdicts.now) (search rules) in
    taken.offered.offers_long

pub rule-requires : goal.rule-requires
rule-requires c =
    let taken : SlotTaken c.args.s c.args.offers.now (length c.args.verdicts.now) = slot_taken c.args.s c.args.offers.now (length c.args.verdicts.now) (search rules) in
    let t = taken.offered in
    record { blocked_value = c.is_blocked-blocked.ensures; offers_len = t.offers_long; verdicts_len = t.room_long }

pub pick-picked-requires-clause-rulings_len : goal.pick-picked-requires-clause-rulings_len
pick-picked-requires-clause-rulings_len c = ap length c.rule.ensures ∙ values_length (ruling_of c.args.s c.args.offers.now) 17

pub pick-picked-requires-clause-turn_bound : goal.pick-picked-requires-clause-turn_bound
pick-picked-requires-clause-turn_bound c =
    let taken : SlotTaken c.args.s c.args.offers.now (length c.args.verdicts.now) = slot_taken c.args.s c.args.offers.now (length c.args.verdicts.now) (search rules) in
    let sound : Adds c.args.s = adds c.args.s taken.adds in
    sound.balanced.turn

pub mark-requires : goal.mark-requires
mark-requires c = ap length c.rule.ensures ∙ values_length (ruling_of c.args.s c.args.offers.now) 17

pub returns : goal.returns
unfolding verdicts
returns c =
    let taken : SlotTaken c.args.s c.args.offers.now (length c.args.verdicts.now) = slot_taken c.args.s c.args.offers.now (length c.args.verdicts.now) (search rules) in
    let sound : Adds c.args.s = adds c.args.s taken.adds in
    let number : (let a = c.args in c.pick-picked.result.number ≡ granted a.s a.offers.now) =
    let s = c.args.s in
    c.pick-picked.ensures.number
    ∙ ap (λ (l : List ℕ). ask (λ (n : ℕ). eqb (nth l n) 2) s.turn 17) c.rule.ensures
    ∙ picked s c.args.offers.now sound.balanced.turn in
    record {
      granted = number;
      steps =
          c.pick-picked.ensures.steps
          ∙ ap (distance c.args.s.turn) number
          ∙ sym (steps_distance c.args.s c.args.offers.now sound.balanced.turn);
      shown = c.mark.ensures ∙ ap₂ (λ (l : List ℕ) (n : ℕ). set l n 1) c.rule.ensures number;
    }
