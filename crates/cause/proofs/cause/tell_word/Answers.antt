-- `cause::cause::tell_word` meets its contract: a line of the definition for each test.
-- Assumes nothing.
use mathlib.Core.Path.{sym, ap, ◌∙◌}
use Rattle.table.proofs.Tables.{miss, hit}
use Rattle.cause.specs.Cause.{word, word_for}
use Rattle.cause.proofs.cause.tell_word.Goals as goal

pub returns-then-best : goal.returns-then-best
unfolding word_for
returns-then-best c = ap word (sym (hit _ _ _ c.if-best.true))

pub returns-then-claimed : goal.returns-then-claimed
unfolding word_for
returns-then-claimed c = ap word (sym (miss _ _ _ c.if-best.false ∙ hit _ _ _ c.if-claimed.true))

pub returns-then-writeback : goal.returns-then-writeback
unfolding word_for
returns-then-writeback c =
    ap word (sym (miss _ _ _ c.if-best.false ∙ miss _ _ _ c.if-claimed.false ∙ hit _ _ _ c.if-writeback.true))

pub returns-else-writeback : goal.returns-else-writeback
unfolding word_for
returns-else-writeback c = ap word (sym (miss _ _ _ c.if-best.false ∙ miss _ _ _ c.if-claimed.false ∙ miss _ _ _ c.if-writeback.false))
