-- `engine::calls::decide` meets its contract.
-- Assumes nothing.
use mathlib.Core.Path.{ap, ◌∙◌}
use Prim.Native.Nat.{ℕ}
use mathlib.Core.List.{List}
use lib.ListN.{length, set}
use borrow.Author.Rules.{rules}
use Rattle.table.proofs.Filling.{values_length}
use Rattle.regulator.specs.Verdict.{ruling_of}
use Rattle.regulator.specs.Turn.{rulings, verdicts}
use Rattle.regulator.proofs.Laws.Refusing.{slot_taken, on_seventeen}
use Rattle.engine.proofs.calls.decide.Goals as goal

pub ask-a-requires : goal.ask-a-requires
ask-a-requires c = on_seventeen c.args.s c.args.offers.now (length c.args.verdicts.now) (search rules)

pub rule-requires : goal.rule-requires
rule-requires c =
    let t = (slot_taken c.args.s c.args.offers.now (length c.args.verdicts.now) (search rules)).offered in
    record { blocked_value = c.ask-a.ensures.blocked; offers_len = t.offers_long; verdicts_len = t.room_long }

pub mark-requires : goal.mark-requires
mark-requires c =
    let a = c.args in
    ap length c.rule.ensures ∙ values_length (ruling_of a.s a.offers.now) 17

pub grant_slot-requires : goal.grant_slot-requires
grant_slot-requires c =
    let told = c.ask-a.ensures in
    record {
      offers_value = on_seventeen c.args.s c.args.offers.now (length c.args.verdicts.now) (search rules);
      number_value = told.number;
      steps_value = told.steps;
    }

pub returns-clause-answer : goal.returns-clause-answer
unfolding verdicts
returns-clause-answer c = c.grant_slot.ensures

pub returns-clause-shown : goal.returns-clause-shown
unfolding verdicts
returns-clause-shown c =
    let s = c.args.s in
    let o = c.args.offers.now in
    c.mark.ensures
    ∙ ap (λ (l : List ℕ). set l c.ask-a.result.number 1) c.rule.ensures
    ∙ ap (λ (n : ℕ). set (rulings s o) n 1) c.ask-a.ensures.number
