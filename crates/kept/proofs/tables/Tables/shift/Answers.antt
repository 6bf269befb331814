-- `kept::tables::Tables::shift` meets its contract.
-- Assumes nothing.
use Rattle.std.proofs.Common.{refl, rules, ◌<◌, length}
use Rattle.table.specs.Sums.{raised, lowered}
use Rattle.table.proofs.Elements.{lowered_same, raised_same}
use Rattle.kept.proofs.tables.Tables.shift.Goals as goal

pub returns : goal.returns
unfolding raised lowered
returns c =
    let t = c.args.self.now in
    let i = c.args.i in
    let d = c.args.taken in
    let claim : i < length t.claim = search rules in
    let reclaimed : i < length t.reclaimed = search rules in
    let writebacks : i < length t.writebacks = search rules in
    let writebackclaim : i < length t.writebackclaim = search rules in
    record {
      claim_is = refl;
      reserved_is = refl;
      reclaimed_is = refl;
      writebacks_is = refl;
      writebackclaim_is = refl;
      claim_told = lowered_same t.claim i d.claim claim;
      reclaimed_told = raised_same t.reclaimed i d.stock reclaimed;
      writebacks_told = raised_same t.writebacks i d.writeback writebacks;
      writebackclaim_told = lowered_same t.writebackclaim i d.writebackclaim writebackclaim;
    }
