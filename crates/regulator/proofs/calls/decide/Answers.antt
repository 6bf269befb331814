-- `regulator::calls::decide` meets its contract.
-- Assumes nothing.
use lib.ListN.{length}
use Rattle.regulator.proofs.Laws.Refusing.{on_seventeen}
use borrow.Author.Rules.{rules}
use Rattle.regulator.proofs.calls.decide.Goals as goal

pub grant_slot-requires : goal.grant_slot-requires
grant_slot-requires c =
    record {
      offers_value = on_seventeen c.args.s c.args.offers.now (length c.args.verdicts.now) (search rules);
      number_value = c.tell_verdicts-picked.ensures.granted;
      steps_value = c.tell_verdicts-picked.ensures.steps;
    }

pub returns-clause-answer : goal.returns-clause-answer
returns-clause-answer c = c.grant_slot.ensures

pub returns-clause-shown : goal.returns-clause-shown
returns-clause-shown c = c.tell_verdicts-picked.ensures.shown
