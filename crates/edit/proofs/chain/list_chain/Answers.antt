-- `edit::chain::list_chain` meets its contract: the walk tells how many records the chain has.
-- Assumes nothing.
use mathlib.Core.Path.{◌≡◌, ap, ◌∙◌}
use native.Mathlib.Omega.{arith}
use lib.ListN.{length}
use Rattle.plan.specs.Chain.{chain_of}
use Rattle.plan.specs.declared.chain.Sums.{Sums}
use Rattle.plan.proofs.Laws.Reading.{head_whole}
use Rattle.edit.proofs.Laws.Listing.{told_count, lists_chain}
use Rattle.edit.proofs.chain.list_chain.Goals as goal

pub list_first-requires : goal.list_first-requires
list_first-requires c =
    let all : c.sums_told-told.result.records ≡ length (chain_of c.args.file.now) = ap (λ (t : Sums). t.records) c.sums_told-told.ensures ∙ told_count c.args.file.now c.requires in
    ((head_whole c.args.file.now c.requires).long, omega (arith, all))

pub returns : goal.returns
returns c =
    let all : c.sums_told-told.result.records ≡ length (chain_of c.args.file.now) = ap (λ (t : Sums). t.records) c.sums_told-told.ensures ∙ told_count c.args.file.now c.requires in
    lists_chain _ _ _ _ all c.list_first.ensures
