-- `edit::adding::add_domain` meets its contract: the two writes are the adding.
-- Assumes nothing.
use mathlib.Core.Path.{◌≡◌, sym, ap, subst, ◌∙◌}
use mathlib.Core.Bool.{true, false}
use mathlib.Core.List.{List}
use Prim.Native.Nat.{ℕ, ◌-◌, ◌≤◌, ◌<◌}
use native.Mathlib.Omega.{arith}
use lib.ListN.{get_or}
use Rattle.table.specs.Lines.{first_of}
use Rattle.table.specs.Ranges.{some_below, highest}
use Rattle.plan.specs.Value.{number, reserved, plan_of, refusal, Refusal}
use Rattle.plan.specs.Records.{record_count, period_in}
use Rattle.plan.specs.Chain.{chain_of, domains_in}
use Rattle.plan.specs.Reading.{accepted_reading, reading_by, read_plan, Reading}
use Rattle.plan.specs.declared.value.Domain.{Domain}
use Rattle.plan.specs.declared.value.Plan.{Plan}
use Rattle.plan.proofs.Laws.Holding.{Fine}
use Rattle.plan.proofs.Laws.Reading.{chain_held, Good, good}
use Rattle.plan.proofs.Laws.Leftovers.{tidy}
use Rattle.edit.specs.Adding.{asked, free, new_record, domain_table, domain_refusal, add_refusal, added}
use Rattle.edit.specs.Inner.{Lists, unlisted_in}
use Rattle.plan.proofs.Laws.Values.{number_some}
use Rattle.std.specs.Prelude.{Err}
use Rattle.std.proofs.lemmas.Result.{err_from_is_err_and}
use Rattle.plan.specs.declared.refusal.Fault.{Fault}
use Rattle.plan.specs.declared.refusal.Refused.{Refused}
use Rattle.edit.proofs.Laws.Adding.{new_free, new_none, new_some, add_unread, add_unfit, add_full, add_taken, fitting, added_laid, refused_add_keeps}
use Rattle.edit.proofs.Laws.Listing.{entry_in}
use Rattle.edit.proofs.Laws.Writing.{new_is, add_writes, checks_are}
use Rattle.edit.proofs.adding.add_domain.Goals as goal

-- A file that was read without a refusal is one that the definition reads: its head and its length are in order, the plan
-- read is that of its chain, and the checks of that plan are the definition's.
module _ (s : List ℕ) {p : Plan} (e : accepted_reading p ≡ read_plan s) where
  ok : (read_plan s).refused ≡ 0
  ok = sym (ap (λ (r : Reading). r.refused) e)

  known : Good s
  known = good s (tidy s ok).earlier

  plan_is : p ≡ plan_of (period_in s) (domains_in s)
  plan_is = ap (λ (r : Reading). r.plan) (e ∙ (tidy s ok).same ∙ known.answer)

  checked : (d : Domain) {n : ℕ}
      → n ≡ first_of (domain_table p.period (get_or p.planned (d.number - 1) false) (reserved p) d) 0
      → n ≡ domain_refusal s d
  checked d told = told ∙ checks_are s p plan_is d

  -- a domain that is refused is refused by the definition, with that number
  module _ (d : Domain) (f : Fault)
      (told : number f ≡ first_of (domain_table p.period (get_or p.planned (d.number - 1) false) (reserved p) d) 0) where
    unfit : refusal (number f) 0 ≡ add_refusal s d
    unfit =
        ap (λ (n : ℕ). refusal n 0) (checked d told)
        ∙ sym (add_unfit s d ok (λ z. number_some f (checked d told ∙ z)))

    kept_unfit : s ≡ added s d
    kept_unfit = sym (refused_add_keeps s d (λ z. number_some f (ap (λ (r : Refusal). r.refused) unfit ∙ z)))

-- one that was refused is refused by the definition, with that number and place
module _ (s : List ℕ) (d : Domain) (x : Refused) (e : reading_by (Err x) ≡ read_plan s) where
  some : (read_plan s).refused ≡ 0 → ⊥
  some z = number_some x.fault (ap (λ (r : Reading). r.refused) e ∙ z)

  unread : refusal (number x.fault) x.place ≡ add_refusal s d
  unread = ap (λ (r : Reading). refusal r.refused r.place) e ∙ sym (add_unread s d some)

  kept : s ≡ added s d
  kept = sym (refused_add_keeps s d (λ z. number_some x.fault (ap (λ (r : Refusal). r.refused) unread ∙ z)))

-- The highest record that a listing of the chain lacks is the new record. Where it is not 0, it is one of the file's, and free.
module _ (s : List ℕ) (count : ℕ) (records : List ℕ) (v : Lists (chain_of s) count records)
    (k : ℕ) (e : k ≡ highest (unlisted_in count records) (record_count s)) where
  taken : k ≡ new_record s
  taken = e ∙ new_is s count records v

  module _ (one : 1 ≤ k) where
    any : some_below (free s) (record_count s) ≡ true
    any = new_some s (λ z. omega (arith, taken, z))

    inside : k < record_count s
    inside = subst (λ (i : ℕ). i < record_count s) (sym taken) (new_free s any).0

-- where no record is free
full : (s : List ℕ) (count : ℕ) (records : List ℕ) → Lists (chain_of s) count records
    → highest (unlisted_in count records) (record_count s) ≡ 0 → some_below (free s) (record_count s) ≡ false
full s count records v e = new_none s (sym (new_is s count records v) ∙ e)

pub returns-in_err-p-clause-value : goal.returns-in_err-p-clause-value
returns-in_err-p-clause-value c =
    let p = err_from_is_err_and c.from_residual.result c.from_residual.ensures.1 in
    rw (p.1, p.2) (unread c.args.file.now (asked c.args.d) _ c.in_err-p.ensures)

pub returns-in_err-p-clause-file_after : goal.returns-in_err-p-clause-file_after
returns-in_err-p-clause-file_after c = kept c.args.file.now (asked c.args.d) _ c.in_err-p.ensures

pub returns-in_err-check_domain-clause-value : goal.returns-in_err-check_domain-clause-value
returns-in_err-check_domain-clause-value c =
    let p = err_from_is_err_and c.from_residual-in_err-check_domain.result c.from_residual-in_err-check_domain.ensures.1 in
    rw (p.1, p.2) (unfit _ c.in_ok-p.ensures (asked c.args.d) _ c.in_err-check_domain.ensures)

pub returns-in_err-check_domain-clause-file_after : goal.returns-in_err-check_domain-clause-file_after
returns-in_err-check_domain-clause-file_after c = kept_unfit _ c.in_ok-p.ensures (asked c.args.d) _ c.in_err-check_domain.ensures

pub list_chain-l-requires : goal.list_chain-l-requires
list_chain-l-requires c = (known _ c.in_ok-p.ensures).head

pub returns-in_default-clause-value : goal.returns-in_default-clause-value
returns-in_default-clause-value c =
    let s = c.args.file.now in
    let d = asked c.args.d in
    let fits = sym (checked _ c.in_ok-p.ensures d c.in_ok-check_domain.ensures) in
    sym (add_full s d (ok _ c.in_ok-p.ensures) fits (full _ _ _ c.list_chain-l.ensures (rw c.in_default.is at c.highest_free.ensures)))

pub returns-in_default-clause-file_after : goal.returns-in_default-clause-file_after
returns-in_default-clause-file_after c =
    let s = c.args.file.now in
    let d = asked c.args.d in
    let fits = sym (checked _ c.in_ok-p.ensures d c.in_ok-check_domain.ensures) in
    let told = add_full s d (ok _ c.in_ok-p.ensures) fits (full _ _ _ c.list_chain-l.ensures (rw c.in_default.is at c.highest_free.ensures)) in
    sym (refused_add_keeps s d (λ z. other (sym (ap (λ (r : Refusal). r.refused) told) ∙ z)))
  where
    other : ◌≡◌ {A = ℕ} 71 0 → ⊥
    other z = omega arith

pub new_record-bytes-requires : goal.new_record-bytes-requires
new_record-bytes-requires c =
    let s = c.args.file.now in
    let d = asked c.args.d in
    let period = ap (λ (p : Plan). p.period) (plan_is _ c.in_ok-p.ensures) ∙ (chain_held s).period in
    subst (λ (P : ℕ). Fine P d) (sym period) (fitting s d (sym (checked _ c.in_ok-p.ensures d c.in_ok-check_domain.ensures))).fine

pub overflow_cast-k : goal.overflow_cast-k
overflow_cast-k c =
    let there = rw c.in-Some.is at c.highest_free.ensures in
    omega (arith, inside _ _ _ c.list_chain-l.ensures _ there.1 there.0, (known _ c.in_ok-p.ensures).whole.short)

pub rewrite-requires : goal.rewrite-requires
rewrite-requires c =
    let w = (known _ c.in_ok-p.ensures).whole in
    let v = c.list_chain-l.ensures in
    let there = rw c.in-Some.is at c.highest_free.ensures in
    (w, entry_in _ _ _ v w.long c.list_chain-l.result.count (omega arith), inside _ _ _ v _ there.1 there.0)

pub returns-clause-value : goal.returns-clause-value
returns-clause-value c =
    let s = c.args.file.now in
    let d = asked c.args.d in
    let there = rw c.in-Some.is at c.highest_free.ensures in
    let fits = sym (checked _ c.in_ok-p.ensures d c.in_ok-check_domain.ensures) in
    sym (add_taken s d (ok _ c.in_ok-p.ensures) fits (any _ _ _ c.list_chain-l.ensures _ there.1 there.0))

pub returns-clause-file_after : goal.returns-clause-file_after
returns-clause-file_after c =
    let s = c.args.file.now in
    let d = asked c.args.d in
    let v = c.list_chain-l.ensures in
    let there = rw c.in-Some.is at c.highest_free.ensures in
    let fits = sym (checked _ c.in_ok-p.ensures d c.in_ok-check_domain.ensures) in
    c.rewrite.ensures
    ∙ add_writes s _ _ v d c.in-Some.k _ (taken _ _ _ v _ there.1) c.new_record-bytes.ensures
    ∙ sym (added_laid s d (ap (λ (x : Refusal). x.refused) (add_taken s d (ok _ c.in_ok-p.ensures) fits (any _ _ _ v _ there.1 there.0))))
