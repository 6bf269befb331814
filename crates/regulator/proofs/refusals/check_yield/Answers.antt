-- `regulator::refusals::check_yield` meets its contract: 34, and then the claim's lines.
-- Assumes nothing.
use mathlib.Core.Path.{◌≡◌, sym, ◌∙◌}
use mathlib.Core.Bool.{true, false}
use Prim.Native.Nat.{◌≤◌}
use native.Mathlib.Omega.{arith}
use borrow.Author.Tests.{eq-eqb, ne_eqb, lt-ltb, le-ltb}
use Rattle.table.specs.Lines.{first_of}
use Rattle.table.proofs.Tables.{miss, hit}
use Rattle.regulator.specs.State.{adds_up}
use Rattle.regulator.specs.Refusals.{claim_table, no_domain, yield_refusal}
use Rattle.regulator.proofs.Laws.Refusing.{yield_full, yield_on, domain_number}
use borrow.Author.Rules.{rules}
use Rattle.regulator.proofs.refusals.check_yield.Goals as goal

pub returns-then-s : goal.returns-then-s
returns-then-s c =
    let sound : adds_up c.args.s ≡ true = search rules in
    sym (yield_full c.args.s c.args.domain c.args.k sound c.if-s.true)

pub returns-then-is_no_domain : goal.returns-then-is_no_domain
returns-then-is_no_domain c =
    let sound : adds_up c.args.s ≡ true = search rules in
    let past1 : (let a = c.args in yield_refusal a.s a.domain a.k ≡ first_of (claim_table a.s a.domain a.k) 0) = yield_on c.args.s c.args.domain c.args.k sound c.if-s.false in
    sym (past1 ∙ hit _ _ _ (sym c.is_no_domain.ensures ∙ c.if-is_no_domain.true))

pub returns-then-k-eq0 : goal.returns-then-k-eq0
returns-then-k-eq0 c =
    let sound : adds_up c.args.s ≡ true = search rules in
    let past1 : (let a = c.args in yield_refusal a.s a.domain a.k ≡ first_of (claim_table a.s a.domain a.k) 0) = yield_on c.args.s c.args.domain c.args.k sound c.if-s.false in
    let past2 : (let a = c.args in no_domain a.s.plan a.domain ≡ false) = sym c.is_no_domain.ensures ∙ c.if-is_no_domain.false in
    sym (past1 ∙ miss _ _ _ past2 ∙ hit _ _ _ (eq-eqb _ 0 c.if-k-eq0.true))

pub overflow_sub-domain : goal.overflow_sub-domain
overflow_sub-domain c =
    let past2 : (let a = c.args in no_domain a.s.plan a.domain ≡ false) = sym c.is_no_domain.ensures ∙ c.if-is_no_domain.false in
    let number : (let d = c.args.domain in (1 ≤ d) × (d ≤ 16)) = let n = domain_number _ _ past2 in (n.0, n.1) in
    (number).0

pub offset_bounds-s-domain : goal.offset_bounds-s-domain
offset_bounds-s-domain c =
    let n = domain_number c.args.s.plan c.args.domain (sym c.is_no_domain.ensures ∙ c.if-is_no_domain.false) in
    omega arith

pub bounds-s-domain : goal.bounds-s-domain
bounds-s-domain c =
    let n = domain_number c.args.s.plan c.args.domain (sym c.is_no_domain.ensures ∙ c.if-is_no_domain.false) in
    omega arith

pub returns-then-from-k : goal.returns-then-from-k
returns-then-from-k c =
    let sound : adds_up c.args.s ≡ true = search rules in
    let past1 : (let a = c.args in yield_refusal a.s a.domain a.k ≡ first_of (claim_table a.s a.domain a.k) 0) = yield_on c.args.s c.args.domain c.args.k sound c.if-s.false in
    let past2 : (let a = c.args in no_domain a.s.plan a.domain ≡ false) = sym c.is_no_domain.ensures ∙ c.if-is_no_domain.false in
    sym (past1 ∙ miss _ _ _ past2 ∙ miss _ _ _ (ne_eqb _ 0 c.if-k-eq0.false) ∙ hit _ _ _ (lt-ltb _ _ (rw c.from.ensures at c.if-from-k.true)))

pub returns : goal.returns
returns c =
    let sound : adds_up c.args.s ≡ true = search rules in
    let past1 : (let a = c.args in yield_refusal a.s a.domain a.k ≡ first_of (claim_table a.s a.domain a.k) 0) = yield_on c.args.s c.args.domain c.args.k sound c.if-s.false in
    let past2 : (let a = c.args in no_domain a.s.plan a.domain ≡ false) = sym c.is_no_domain.ensures ∙ c.if-is_no_domain.false in
    sym (past1 ∙ miss _ _ _ past2 ∙ miss _ _ _ (ne_eqb _ 0 c.if-k-eq0.false) ∙ miss _ _ _ (le-ltb _ _ (rw c.from.ensures at c.if-from-k.false)))
