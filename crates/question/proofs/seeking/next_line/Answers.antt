-- `question::seeking::next_line` meets its contract.
-- Assumes nothing.
use mathlib.Core.Path.{◌≡◌, sym, ap, subst, ◌∙◌}
use mathlib.Core.Bool.{true, false}
use Prim.Native.Nat.{◌+◌}
use native.Mathlib.Omega.{arith}
use lib.ListN.{length}
use borrow.Author.Rules.{rules}
use Rattle.regulator.specs.State.{Shaped}
use Rattle.script.specs.Line.{meaning_of}
use Rattle.script.specs.Inner.{LineEnd, open_end}
use Rattle.script.proofs.Laws.Splitting.{line_in}
use Rattle.question.specs.Seeking.{goes_on, Sound, Sought}
use Rattle.question.specs.declared.seeking.Search.{Search}
use Rattle.question.proofs.Laws.Searching.{sought_line, further}
use Rattle.question.proofs.seeking.next_line.Goals as goal

pub carry_out-requires-clause-state_value : goal.carry_out-requires-clause-state_value
carry_out-requires-clause-state_value c =
    let sound : Sound c.args.q = search rules in
    let live : goes_on c.args.q.stage ≡ true = search rules in
    sound.adds live

pub carry_out-requires-clause-le_left : goal.carry_out-requires-clause-le_left
carry_out-requires-clause-le_left c =
    let sound : Sound c.args.q = search rules in
    let live : goes_on c.args.q.stage ≡ true = search rules in
    sound.some live

pub returns-clause-sought : goal.returns-clause-sought
returns-clause-sought c =
    let ends : LineEnd c.args.part.now c.args.q.used c.args.end = search rules in
    let shut : open_end c.args.q.used c.args.end (length c.args.part.now) ≡ false = search rules in
    let live : goes_on c.args.q.stage ≡ true = search rules in
    let sound : Sound c.args.q = search rules in
    let shape : Shaped c.args.q.state = search rules in
    let a = c.args in
    let part = c.args.part.now in
    let e = c.carry_out.ensures in
    subst (Sought part a.q) (sym e) (sought_line a.q part a.end ends shut live sound shape)

pub returns-clause-used_lt_used : goal.returns-clause-used_lt_used
returns-clause-used_lt_used c =
    let ends : LineEnd c.args.part.now c.args.q.used c.args.end = search rules in
    let a = c.args in
    let part = c.args.part.now in
    let e = c.carry_out.ensures in
    let m = meaning_of (line_in part a.q.used a.end) in
    λ z.
    let f = ap (λ (r : Search). r.used) e ∙ further a.q m (a.end + 1) (sym (ap (λ (r : Search). goes_on r.stage) e) ∙ z) in
    omega (arith, f, ends.low)
