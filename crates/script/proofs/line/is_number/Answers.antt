-- `script::line::is_number` meets its contract.
-- Assumes nothing.
use mathlib.Core.Path.{sym, ap, ap₂, ◌∙◌}
use mathlib.Core.Bool.{Bool, ◌&&◌}
use lib.Dec.{leb}
use lib.ListN.{length}
use borrow.Author.Tests.{le-leb, lt-leb}
use Rattle.script.specs.Line.{digits_only, is_number}
use Rattle.script.proofs.line.is_number.Goals as goal

pub returns-then-part-most : goal.returns-then-part-most
unfolding is_number
returns-then-part-most c =
    let l = c.args.part.now in
    let m = c.args.most in
    c.digits_only.ensures
    ∙ sym (ap₂ (λ (s t : Bool). s && (t && digits_only l)) (le-leb 1 (length l) c.if-part-ge1.true) (le-leb (length l) m c.if-part-most.true))

pub returns-else-part-most : goal.returns-else-part-most
unfolding is_number
returns-else-part-most c =
    let l = c.args.part.now in
    let m = c.args.most in
    let e = lt-leb (length l) m c.if-part-most.false in
    e ∙ sym (ap₂ (λ (s t : Bool). s && (t && digits_only l)) (le-leb 1 (length l) c.if-part-ge1.true) e)

pub returns-else-part-ge1 : goal.returns-else-part-ge1
unfolding is_number
returns-else-part-ge1 c =
    let l = c.args.part.now in
    let m = c.args.most in
    let e = lt-leb 1 (length l) c.if-part-ge1.false in
    e ∙ sym (ap (λ (s : Bool). s && (leb (length l) m && digits_only l)) e)
