-- `regulator::close::end` meets its contract.
-- Assumes nothing.
use borrow.Author.Tests.{eq-eqb, ne_eqb}
use Rattle.regulator.specs.Close.{ended}
use Rattle.regulator.proofs.close.end.Goals as goal

pub begin-state-requires : goal.begin-state-requires
begin-state-requires c = rw c.next_plan.ensures c.requires.s_bound

pub returns-then-s : goal.returns-then-s
unfolding ended
returns-then-s c = rw (ne_eqb _ _ c.if-s.true)

pub returns : goal.returns
unfolding ended
returns c =
    rw (
      eq-eqb _ _ c.if-s.false,
      c.begin-state.ensures,
      c.next_tracked.ensures,
      c.next_plan.ensures,
      c.counts_of-counts.ensures,
    )
