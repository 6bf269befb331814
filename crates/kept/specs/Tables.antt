-- The tables that a slot changes, and one domain's row of them at a grant.
-- Assumes nothing.
use Rattle.std.specs.Prelude.{◌≡◌, ℕ, ◌+◌, ◌-◌, ◌≤◌}
use Rattle.table.specs.Sums.{nth, raised, lowered}
use Rattle.kept.specs.declared.tables.Tables.{Tables}
use Rattle.kept.specs.declared.tables.Taken.{Taken}
use Rattle.kept.specs.declared.tables.Row.{Row}

-- what a grant takes is at most 1 of each, and at most 1 of both claims
pub record Few (d : Taken) : Type 0 where
  pub claim : d.claim ≤ 1
  pub stock : d.stock ≤ 1
  pub writeback : d.writeback ≤ 1
  pub claims : d.claim + d.writebackclaim ≤ 1

-- The tables after a grant to the domain at index j, and its row in them.
pub record Shifted (t t' : Tables) (j : ℕ) (d : Taken) (row : Row) : Type 0 where
  pub claim_is : t'.claim ≡ lowered t.claim j d.claim
  pub reserved_is : t'.reserved ≡ raised t.reserved j d.claim
  pub reclaimed_is : t'.reclaimed ≡ raised t.reclaimed j d.stock
  pub writebacks_is : t'.writebacks ≡ raised t.writebacks j d.writeback
  pub writebackclaim_is : t'.writebackclaim ≡ lowered t.writebackclaim j d.writebackclaim
  pub claim_told : row.claim ≡ nth t.claim j - d.claim
  pub reclaimed_told : row.reclaimed ≡ nth t.reclaimed j + d.stock
  pub writebacks_told : row.writebacks ≡ nth t.writebacks j + d.writeback
  pub writebackclaim_told : row.writebackclaim ≡ nth t.writebackclaim j - d.writebackclaim
