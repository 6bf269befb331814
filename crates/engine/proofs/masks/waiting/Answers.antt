-- `engine::masks::waiting` meets its contract.
-- Assumes nothing.
use Rattle.engine.proofs.Laws.Masking.{wait_bits, wait_fits}
use Rattle.engine.proofs.masks.waiting.Goals as goal

pub returns-clause-bits : goal.returns-clause-bits
returns-clause-bits c =
    let a = c.args in
    λ n. wait_bits a.access a.writeback a.has a.back n

pub returns-clause-small : goal.returns-clause-small
returns-clause-small c =
    let a = c.args in
    wait_fits a.access a.writeback a.has a.back c.requires.access_bound c.requires.writeback_bound
