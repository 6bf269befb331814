-- `question::seeking::seek` meets its contract: lines after lines, until the search ends or no line is left.
-- Assumes nothing.
use mathlib.Core.Path.{sym, ◌∙◌}
use mathlib.Core.Bool.{false≢true}
use Prim.Native.Nat.{◌≤◌}
use lib.ListN.{length}
use borrow.Author.Rules.{rules}
use Rattle.script.proofs.Laws.Feeding.{fed_lineless}
use Rattle.question.specs.Seeking.{goes_on, Sound}
use Rattle.question.proofs.Laws.Searching.{sought_none, sought_then, less_left}
use Rattle.question.proofs.seeking.seek.Goals as goal

pub loop-end-init : goal.loop-end-init
loop-end-init c =
    let sound : Sound c.args.q = search rules in
    let within : c.args.q.used ≤ length c.args.part.now = search rules in
    sought_none c.args.part.now c.args.q sound within

-- the search has ended
pub returns : goal.returns
returns c =
    let v = c.loop-end.invariant in
    record {
      same = v.same;
      sound = v.sound;
      within = v.within;
      lineless = λ e. absurd (false≢true (sym (sym c.goes_on.ensures ∙ c.loop-end-test.false) ∙ e));
    }

pub line_end-end-requires : goal.line_end-end-requires
line_end-end-requires c = c.loop-end.invariant.within

pub is_open_end-requires : goal.is_open_end-requires
is_open_end-requires c = c.line_end-end.ensures.low

-- no line is left
pub returns-then-is_open_end : goal.returns-then-is_open_end
returns-then-is_open_end c =
    let v = c.loop-end.invariant in
    let e = c.line_end-end in
    record {
      same = v.same;
      sound = v.sound;
      within = v.within;
      lineless = λ z. fed_lineless c.args.part.now c.loop-end.r.used e.result e.ensures (sym c.is_open_end.ensures ∙ c.if-is_open_end.true);
    }

pub next_line-r-requires-clause-sound : goal.next_line-r-requires-clause-sound
next_line-r-requires-clause-sound c = c.loop-end.invariant.sound

pub next_line-r-requires-clause-stage_value : goal.next_line-r-requires-clause-stage_value
next_line-r-requires-clause-stage_value c = sym c.goes_on.ensures ∙ c.loop-end-test.true

pub next_line-r-requires-clause-line_end : goal.next_line-r-requires-clause-line_end
next_line-r-requires-clause-line_end c = c.line_end-end.ensures

pub next_line-r-requires-clause-part_value : goal.next_line-r-requires-clause-part_value
next_line-r-requires-clause-part_value c = sym c.is_open_end.ensures ∙ c.if-is_open_end.false

pub loop-end-smaller : goal.loop-end-smaller
loop-end-smaller c =
    let n = c.next_line-r in
    less_left (goes_on c.loop-end.r.stage) (goes_on n.result.stage) c.loop-end.r.used n.result.used (length c.args.part.now)
    (sym c.goes_on.ensures ∙ c.loop-end-test.true) c.loop-end.invariant.within n.ensures.used_lt_used n.ensures.sought.within

pub loop-end-preserved : goal.loop-end-preserved
loop-end-preserved c =
    let a = c.args in
    sought_then a.part.now a.q c.loop-end.r c.next_line-r.result c.loop-end.invariant c.next_line-r.ensures.sought
