-- `edit::chain::link_of` meets its contract.
-- Assumes nothing.
use mathlib.Core.Path.{sym, ap, ◌∙◌}
use mathlib.Core.List.{List}
use Prim.Native.Nat.{ℕ}
use Rattle.plan.specs.Records.{u16_at}
use Rattle.plan.specs.Chain.{link_of}
use Rattle.plan.proofs.Laws.Links.{link_zero, link_of_lem}
use Rattle.edit.proofs.chain.link_of.Goals as goal

pub returns-then-k-eq0 : goal.returns-then-k-eq0
returns-then-k-eq0 c =
    let s = c.args.file.now in
    c.u16_at.ensures ∙ sym (link_zero s) ∙ ap (link_of s) (sym c.if-k-eq0.true)

pub returns : goal.returns
returns c =
    let a = c.args in
    c.u16_at-2.ensures ∙ ap (λ (b : List ℕ). u16_at b 0) c.record_part.ensures.0 ∙ sym (link_of_lem a.file.now a.k c.if-k-eq0.false)
