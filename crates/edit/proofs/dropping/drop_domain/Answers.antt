-- `edit::dropping::drop_domain` meets its contract: the two writes are the dropping.
-- Assumes nothing.
use mathlib.Core.Path.{◌≡◌, sym, ap, ◌∙◌}
use mathlib.Core.List.{List}
use Prim.Native.Nat.{ℕ, ◌+◌, ◌<◌}
use native.Mathlib.Omega.{arith}
use lib.ListN.{length}
use borrow.Author.Rules.{rules}
use borrow.Author.Tests.{ltb-true}
use Rattle.std.specs.Prelude.{Err, Some}
use Rattle.std.proofs.lemmas.Result.{err_from_is_err_and}
use Rattle.plan.specs.Value.{number, refusal, Refusal}
use Rattle.plan.specs.Reading.{accepted_reading, reading_by, read_plan, Reading}
use Rattle.plan.specs.Chain.{chain_of}
use Rattle.plan.specs.declared.refusal.Refused.{Refused}
use Rattle.plan.specs.declared.value.Plan.{Plan}
use Rattle.plan.proofs.Laws.Reading.{Good, good}
use Rattle.plan.proofs.Laws.Leftovers.{tidy}
use Rattle.plan.proofs.Laws.Values.{number_some}
use Rattle.edit.specs.Dropping.{numbers_in, drop_refusal, dropped}
use Rattle.edit.specs.Inner.{Lists, IsPlace}
use Rattle.edit.proofs.Laws.Dropping.{drop_unread, drop_absent, drop_taken, dropped_laid, refused_drop_keeps}
use Rattle.edit.proofs.Laws.Listing.{entry_in}
use Rattle.edit.proofs.Laws.Writing.{found, drop_writes}
use Rattle.edit.proofs.dropping.drop_domain.Goals as goal

-- A file that was read without a refusal is one that the definition reads, and its head and its length are in order.
module _ (s : List ℕ) {p : Plan} (e : accepted_reading p ≡ read_plan s) where
  ok : (read_plan s).refused ≡ 0
  ok = sym (ap (λ (r : Reading). r.refused) e)

  known : Good s
  known = good s (tidy s ok).earlier

-- one that was refused is refused by the definition, with that number and place
module _ (s : List ℕ) (n : ℕ) (x : Refused) (e : reading_by (Err x) ≡ read_plan s) where
  some : (read_plan s).refused ≡ 0 → ⊥
  some z = number_some x.fault (ap (λ (r : Reading). r.refused) e ∙ z)

  unread : refusal (number x.fault) x.place ≡ drop_refusal s n
  unread = ap (λ (r : Reading). refusal r.refused r.place) e ∙ sym (drop_unread s n some)

  kept : s ≡ dropped s n
  kept = sym (refused_drop_keeps s n (λ z. number_some x.fault (ap (λ (r : Refusal). r.refused) unread ∙ z)))

-- where the domain was found, its place is below the count
below : (s : List ℕ) (count : ℕ) (records : List ℕ) → Lists (chain_of s) count records → (n p : ℕ) → IsPlace n (numbers_in s) (Some p) → p < count
below s count records v n p f = ltb-true p count (found s count records v n p f.1 ∙ f.0)

pub returns-in_err-read-clause-value : goal.returns-in_err-read-clause-value
returns-in_err-read-clause-value c =
    let p = err_from_is_err_and c.from_residual.result c.from_residual.ensures.1 in
    rw (p.1, p.2) (unread c.args.file.now c.args.number _ c.in_err-read.ensures)

pub returns-in_err-read-clause-file_after : goal.returns-in_err-read-clause-file_after
returns-in_err-read-clause-file_after c = kept c.args.file.now c.args.number _ c.in_err-read.ensures

pub list_chain-l-requires : goal.list_chain-l-requires
list_chain-l-requires c = (known _ c.in_ok-read.ensures).head

pub place_of-requires : goal.place_of-requires
place_of-requires c = ((known _ c.in_ok-read.ensures).whole.long, c.list_chain-l.ensures)

pub returns-in_default-clause-value : goal.returns-in_default-clause-value
returns-in_default-clause-value c =
    let none = rw c.in_default.is at c.place_of.ensures in
    sym (drop_absent c.args.file.now c.args.number (ok _ c.in_ok-read.ensures) none)

pub returns-in_default-clause-file_after : goal.returns-in_default-clause-file_after
returns-in_default-clause-file_after c =
    let none = rw c.in_default.is at c.place_of.ensures in
    let told = drop_absent c.args.file.now c.args.number (ok _ c.in_ok-read.ensures) none in
    sym (refused_drop_keeps c.args.file.now c.args.number (λ z. other (sym (ap (λ (r : Refusal). r.refused) told) ∙ z)))
  where
    other : ◌≡◌ {A = ℕ} 72 0 → ⊥
    other z = omega arith

pub overflow_add-i : goal.overflow_add-i
overflow_add-i c =
    let v = c.list_chain-l.ensures in
    omega (arith, c.list_chain-l.result.few, below _ _ _ v _ _ (rw c.in-Some.is at c.place_of.ensures))

pub offset_bounds-l-p : goal.offset_bounds-l-p
offset_bounds-l-p c =
    let v = c.list_chain-l.ensures in
    omega (arith, c.list_chain-l.result.few, below _ _ _ v _ _ (rw c.in-Some.is at c.place_of.ensures))

pub bounds-l-p : goal.bounds-l-p
bounds-l-p c =
    let v = c.list_chain-l.ensures in
    let long : length c.list_chain-l.result.records ≡ 17 = search rules in
    omega (arith, c.list_chain-l.result.few, below _ _ _ v _ _ (rw c.in-Some.is at c.place_of.ensures))

pub link_of-to-requires : goal.link_of-to-requires
link_of-to-requires c =
    let v = c.list_chain-l.ensures in
    let p = c.in-Some.p in
    let low = below _ _ _ v _ _ (rw c.in-Some.is at c.place_of.ensures) in
    omega (arith, entry_in _ _ _ v (known _ c.in_ok-read.ensures).whole.long (p + 1) (omega (arith, low)))

pub offset_bounds-l-p-2 : goal.offset_bounds-l-p-2
offset_bounds-l-p-2 c =
    let v = c.list_chain-l.ensures in
    omega (arith, c.list_chain-l.result.few, below _ _ _ v _ _ (rw c.in-Some.is at c.place_of.ensures))

pub bounds-l-p-2 : goal.bounds-l-p-2
bounds-l-p-2 c =
    let v = c.list_chain-l.ensures in
    let long : length c.list_chain-l.result.records ≡ 17 = search rules in
    omega (arith, c.list_chain-l.result.few, below _ _ _ v _ _ (rw c.in-Some.is at c.place_of.ensures))

pub rewrite-requires : goal.rewrite-requires
rewrite-requires c =
    let w = (known _ c.in_ok-read.ensures).whole in
    let v = c.list_chain-l.ensures in
    let p = c.in-Some.p in
    let low = below _ _ _ v _ _ (rw c.in-Some.is at c.place_of.ensures) in
    (w, entry_in _ _ _ v w.long p (omega (arith, low)), entry_in _ _ _ v w.long (p + 1) (omega (arith, low)))

pub returns-clause-value : goal.returns-clause-value
returns-clause-value c =
    sym (drop_taken c.args.file.now c.args.number (ok _ c.in_ok-read.ensures) (rw c.in-Some.is at c.place_of.ensures).0)

pub returns-clause-file_after : goal.returns-clause-file_after
returns-clause-file_after c =
    let s = c.args.file.now in
    let n = c.args.number in
    let p = c.in-Some.p in
    let v = c.list_chain-l.ensures in
    let there = rw c.in-Some.is at c.place_of.ensures in
    c.rewrite.ensures
    ∙ drop_writes s _ _ v n p there.1 (below _ _ _ v n p there) _ c.link_of-to.ensures
    ∙ sym (dropped_laid s n (ap (λ (x : Refusal). x.refused) (drop_taken s n (ok _ c.in_ok-read.ensures) there.0)))
