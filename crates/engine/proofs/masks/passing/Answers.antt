-- `engine::masks::passing` meets its contract.
-- Assumes nothing.
use lib.Bits.{bit_or}
use Rattle.engine.proofs.Laws.Masking.{blocked_bits, stock_bits, dry_bits, pass_fits}
use Rattle.engine.proofs.masks.passing.Goals as goal

pub returns-then-blocked-clause-bits : goal.returns-then-blocked-clause-bits
returns-then-blocked-clause-bits c =
    let a = c.args in
    λ n. rw c.if-blocked.true (blocked_bits a.wait a.access a.writeback a.masks.may a.masks.room n)

pub returns-then-blocked-clause-small : goal.returns-then-blocked-clause-small
returns-then-blocked-clause-small c = c.requires.wait_bound

pub returns-then-stock-clause-bits : goal.returns-then-stock-clause-bits
returns-then-stock-clause-bits c =
    let a = c.args in
    λ n. rw (c.if-blocked.false, c.if-stock.true) (stock_bits a.wait a.access a.writeback a.masks.may a.masks.room n)

pub returns-then-stock-clause-small : goal.returns-then-stock-clause-small
returns-then-stock-clause-small c =
    let a = c.args in
    let p = c.requires in
    pass_fits a.wait a.access a.writeback (bit_or a.masks.may 1) a.masks.room p.wait_bound p.access_bound p.writeback_bound

pub returns-clause-bits : goal.returns-clause-bits
returns-clause-bits c =
    let a = c.args in
    λ n. rw (c.if-blocked.false, c.if-stock.false) (dry_bits a.wait a.access a.writeback a.masks.may a.masks.room n)

pub returns-clause-small : goal.returns-clause-small
returns-clause-small c =
    let a = c.args in
    let p = c.requires in
    pass_fits a.wait a.access a.writeback 1 a.masks.room p.wait_bound p.access_bound p.writeback_bound
