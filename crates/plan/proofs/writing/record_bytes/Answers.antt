-- `plan::writing::record_bytes` meets its contract.
-- Assumes nothing.
use mathlib.Core.Path.{sym, ap, ◌∙◌}
use Prim.Native.Nat.{ℕ, ◌-◌}
use lib.ListN.{get_or}
use Rattle.plan.specs.Records.{head_record, domain_record}
use Rattle.plan.specs.Writing.{nobody}
use Rattle.plan.proofs.Laws.Filing.{record_head, record_domain}
use Rattle.plan.proofs.writing.record_bytes.Goals as goal

pub returns-then-k-eq0 : goal.returns-then-k-eq0
returns-then-k-eq0 c =
    let a = c.args in
    c.head_record.ensures ∙ ap (head_record a.period) c.next_index-next.ensures ∙ sym (record_head a.period a.l.count a.l.domains a.k c.if-k-eq0.true)

pub returns : goal.returns
returns c =
    let a = c.args in
    c.domain_record.ensures ∙ ap (λ (i : ℕ). domain_record i (get_or a.l.domains (a.k - 1) nobody)) c.next_index-next.ensures
    ∙ sym (record_domain a.period a.l.count a.l.domains a.k c.if-k-eq0.false)
