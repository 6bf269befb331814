-- `edit::chain::is_listed` meets its contract.
-- Assumes nothing.
use mathlib.Core.Path.{◌∙◌}
use Rattle.edit.proofs.Laws.Listing.{any_has}
use Rattle.edit.proofs.chain.is_listed.Goals as goal

pub returns : goal.returns
returns c = c.contains.ensures.value ∙ any_has c.args.k _
