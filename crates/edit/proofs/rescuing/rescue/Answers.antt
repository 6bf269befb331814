-- `edit::rescuing::rescue` meets its contract: the link that is set and the records that are zeroed are the rescue.
-- Assumes nothing.
use mathlib.Core.Path.{◌≡◌, sym, ap, ap₂, subst, ◌∙◌}
use mathlib.Core.Bool.{false}
use mathlib.Core.List.{List}
use Prim.Native.Nat.{ℕ, ◌<◌}
use native.Mathlib.Omega.{arith}
use lib.ListN.{length, take}
use Rattle.table.specs.Lines.{first_of}
use Rattle.plan.specs.Records.{record_count}
use Rattle.plan.specs.Chain.{chain_of}
use Rattle.plan.specs.Reading.{head_table, read_plan}
use Rattle.plan.proofs.Laws.Heads.{Whole}
use Rattle.plan.proofs.Laws.Reading.{head_whole}
use Rattle.std.specs.Prelude.{Err}
use Rattle.std.proofs.lemmas.Result.{err_from_is_err_and}
use Rattle.plan.specs.declared.refusal.Refused.{Refused}
use Rattle.edit.specs.Laying.{laid}
use Rattle.edit.specs.Rescue.{kept_records, kept_count, stays_refused, rescued_by, rescue_answer}
use Rattle.edit.specs.Inner.{Lists, listed_only, TellsStart}
use Rattle.edit.proofs.Laws.Rescue.{kept_within, last_inside, answer_refused, answer_taken, refused_keeps, taken_head, taken_laid}
use Rattle.edit.proofs.Laws.Storing.{linked_length}
use Rattle.edit.proofs.Laws.Listing.{entry_last}
use Rattle.edit.proofs.Laws.Writing.{rescue_writes}
use Rattle.edit.proofs.rescuing.rescue.Goals as goal

-- a file that does not stay refused has a head and a length in order
module _ (s : List ℕ) (no : stays_refused (read_plan s).refused ≡ false) where
  head : first_of (head_table s) 0 ≡ 0
  head = taken_head s no

  whole : Whole (length s)
  whole = head_whole s head

-- one that stays refused is refused by the definition, with that number and place
told_refusal : (s : List ℕ) (x : Refused) → TellsStart s (Err x) → rescued_by (Err x) ≡ rescue_answer s
told_refusal s x h =
    ap₂ (λ (n place : ℕ). record { refused = n; place = place; kept = 0 }) h.1 h.2 ∙ sym (answer_refused s h.0)

-- A listing of as many records of the chain as are kept is one of the records kept.
lists : (s : List ℕ) {kept count : ℕ} {records : List ℕ} → kept ≡ kept_count s → Lists (take kept (chain_of s)) count records
    → Lists (kept_records s) count records
lists s {kept} {count} {records} e v = subst (λ (n : ℕ). Lists (take n (chain_of s)) count records) e v

pub returns-in_err-check_start-clause-value : goal.returns-in_err-check_start-clause-value
returns-in_err-check_start-clause-value c =
    let p = err_from_is_err_and c.from_residual.result c.from_residual.ensures.1 in
    rw (p.1, p.2) (told_refusal c.args.file.now _ c.in_err-check_start.ensures)

pub returns-in_err-check_start-clause-file_after : goal.returns-in_err-check_start-clause-file_after
returns-in_err-check_start-clause-file_after c = sym (refused_keeps c.args.file.now c.in_err-check_start.ensures.0)

pub kept_count-kept-requires : goal.kept_count-kept-requires
kept_count-kept-requires c = head _ c.in_ok-check_start.ensures

pub list_first-l-requires : goal.list_first-l-requires
list_first-l-requires c =
    ((whole _ c.in_ok-check_start.ensures).long, omega (arith, c.kept_count-kept.ensures, kept_within c.args.file.now))

pub set_link-requires : goal.set_link-requires
set_link-requires c =
    let w = whole _ c.in_ok-check_start.ensures in
    (w, subst (λ (q : ℕ). q < record_count c.args.file.now) (sym (entry_last _ _ _ (lists _ c.kept_count-kept.ensures c.list_first-l.ensures))) (last_inside _ w.long))

pub zero_others-requires : goal.zero_others-requires
zero_others-requires c =
    let w = whole _ c.in_ok-check_start.ensures in
    subst Whole (sym (ap length c.set_link.ensures ∙ linked_length c.args.file.now _ _ w)) w

pub returns-clause-value : goal.returns-clause-value
returns-clause-value c =
    ap (λ (n : ℕ). record { refused = 0; place = 0; kept = n }) c.kept_count-kept.ensures ∙ sym (answer_taken c.args.file.now c.in_ok-check_start.ensures)

pub returns-clause-file_after : goal.returns-clause-file_after
returns-clause-file_after c =
    let s = c.args.file.now in
    let no = c.in_ok-check_start.ensures in
    let v = lists _ c.kept_count-kept.ensures c.list_first-l.ensures in
    let count = c.list_first-l.result.count in
    let records = c.list_first-l.result.records in
    c.zero_others.ensures ∙ ap (λ (t : List ℕ). laid (listed_only t count records) t) c.set_link.ensures
    ∙ rescue_writes s count records (whole _ no) v _ (entry_last _ _ _ v) ∙ sym (taken_laid s no)
