-- `regulator::verdict::is_blocked` meets its contract.
-- Assumes nothing.
use mathlib.Core.Path.{◌≡◌, sym, ap, ◌∙◌}
use lib.IntN.{ℤ, pos}
use lib.Signed.{le_z}
use mir.Syntax.{w32}
use mir.Val.{SFits, to_z, of_z}
use mir.Facts.{to_z-of_z}
use borrow.Author.Rules.{rules}
use Rattle.regulator.specs.Verdict.{loose, blocked, waiting}
use Rattle.regulator.proofs.Laws.Ranging.{lowest_there}
use Rattle.regulator.proofs.verdict.is_blocked.Goals as goal

pub returns-then-loose-le0 : goal.returns-then-loose-le0
unfolding blocked
returns-then-loose-le0 c =
    let test : le_z (loose c.args.s) (pos 0) ≡ le_z (to_z w32 (of_z w32 c.loose.result)) (pos 0) =
    let fits : SFits w32 c.loose.result = search rules in
    ap (λ (z : ℤ). le_z z (pos 0)) (sym (to_z-of_z fits ∙ c.loose.ensures)) in
    let there = lowest_there (waiting c.args.s c.args.offers.now) 16 c.lowest_waiting.result c.lowest_waiting.ensures.lowest c.lowest_waiting.ensures.below in
    rw (test ∙ c.if-loose-le0.true) (c.is_some.ensures ∙ there)

pub returns-else-loose-le0 : goal.returns-else-loose-le0
unfolding blocked
returns-else-loose-le0 c =
    let test : le_z (loose c.args.s) (pos 0) ≡ le_z (to_z w32 (of_z w32 c.loose.result)) (pos 0) =
    let fits : SFits w32 c.loose.result = search rules in
    ap (λ (z : ℤ). le_z z (pos 0)) (sym (to_z-of_z fits ∙ c.loose.ensures)) in
    rw (test ∙ c.if-loose-le0.false) c.if-loose-le0.false
