-- `edit::compacting::compact` meets its contract: the file with its records moved is the compacted one.
-- Assumes nothing.
use mathlib.Core.Path.{◌≡◌, sym, ap, ◌∙◌}
use mathlib.Core.List.{List}
use Prim.Native.Nat.{ℕ}
use Rattle.std.specs.Prelude.{Err}
use Rattle.std.proofs.lemmas.Result.{err_from_is_err_and}
use Rattle.plan.specs.Value.{refusal}
use Rattle.plan.specs.Reading.{accepted_reading, reading_by, read_with_leftovers, Reading}
use Rattle.plan.specs.declared.refusal.Refused.{Refused}
use Rattle.plan.specs.declared.value.Plan.{Plan}
use Rattle.plan.proofs.Laws.Reading.{Good, good}
use Rattle.plan.proofs.Laws.Values.{number_some}
use Rattle.edit.specs.Compaction.{compacted}
use Rattle.edit.proofs.Laws.Compaction.{compacted_laid, refused_compact_keeps}
use Rattle.edit.proofs.compacting.compact.Goals as goal

module _ (s : List ℕ) {p : Plan} (e : accepted_reading p ≡ read_with_leftovers s) where
  ok : (read_with_leftovers s).refused ≡ 0
  ok = sym (ap (λ (r : Reading). r.refused) e)

  known : Good s
  known = good s ok

kept : (s : List ℕ) (x : Refused) → reading_by (Err x) ≡ read_with_leftovers s → s ≡ compacted s
kept s x e = sym (refused_compact_keeps s (λ z. number_some x.fault (ap (λ (r : Reading). r.refused) e ∙ z)))

pub returns-in_err-read_with_leftovers-clause-value : goal.returns-in_err-read_with_leftovers-clause-value
returns-in_err-read_with_leftovers-clause-value c =
    let p = err_from_is_err_and c.from_residual.result c.from_residual.ensures.1 in
    rw (p.1, p.2) (ap (λ (r : Reading). refusal r.refused r.place) c.in_err-read_with_leftovers.ensures)

pub returns-in_err-read_with_leftovers-clause-file_after : goal.returns-in_err-read_with_leftovers-clause-file_after
returns-in_err-read_with_leftovers-clause-file_after c = kept c.args.file.now _ c.in_err-read_with_leftovers.ensures

pub list_chain-l-requires : goal.list_chain-l-requires
list_chain-l-requires c = (known _ c.in_ok-read_with_leftovers.ensures).head

pub gather-store-requires : goal.gather-store-requires
gather-store-requires c = ((known _ c.in_ok-read_with_leftovers.ensures).whole.long, c.list_chain-l.ensures)

pub move_records-requires : goal.move_records-requires
move_records-requires c = (c.list_chain-l.result.few, (known _ c.in_ok-read_with_leftovers.ensures).whole, c.gather-store.ensures)

pub returns-clause-value : goal.returns-clause-value
returns-clause-value c = ap (λ (r : Reading). refusal r.refused r.place) c.in_ok-read_with_leftovers.ensures

pub returns-clause-file_after : goal.returns-clause-file_after
returns-clause-file_after c = c.move_records.ensures ∙ sym (compacted_laid c.args.file.now (ok _ c.in_ok-read_with_leftovers.ensures))
