-- The plan of a list of domains without one of them.
-- Assumes nothing.
use mathlib.Core.Path.{◌≡◌, refl, sym, ap, ◌∙◌}
use mathlib.Core.Bool.{true, false}
use mathlib.Core.List.{List, [], ◌∷◌, ◌++◌, map, map-append}
use Prim.Native.Nat.{ℕ, zero, suc, ◌-◌, ◌≤◌}
use native.Mathlib.Omega.{arith}
use lib.ListN.{set, replicate}
use lib.Seq.{set-set, set_comm}
use Rattle.table.specs.Sums.{sum}
use Rattle.table.specs.Members.{has}
use Rattle.table.proofs.Lists.{has_not, sum_append}
use Rattle.plan.specs.Value.{reserves, reserved_of, no_domains, with_domain, with_all, plan_of}
use Rattle.plan.specs.declared.value.Domain.{Domain}
use Rattle.plan.specs.declared.value.Plan.{Plan}
use Rattle.plan.proofs.Laws.Holding.{numbers}
use Rattle.edit.specs.Dropping.{without_domain}

with_append : (p : Plan) (ds es : List Domain) → with_all p (ds ++ es) ≡ with_all (with_all p ds) es
unfolding with_all
with_append p [] es = refl
with_append p (d ∷ ds) es = with_append (with_domain p d) ds es

-- a domain added and taken away, and one taken away before another is added
without_same : (p : Plan) (d : Domain) → without_domain (with_domain p d) d.number ≡ without_domain p d.number
without_same p d =
    let n = d.number - 1 in
    λ x. record {
      period = p.period;
      planned = set-set p.planned n true false x;
      reservation = set-set p.reservation n d.reservation 0 x;
      reclaimcap = set-set p.reclaimcap n d.reclaimcap 0 x;
      writebackcap = set-set p.writebackcap n d.writebackcap 0 x;
      writebackreservation = set-set p.writebackreservation n d.writebackreservation 0 x;
      marked = set-set p.marked n d.marked false x;
    }

without_other : (p : Plan) (d : Domain) (n : ℕ) → (n ≡ d.number → ⊥) → 1 ≤ d.number → 1 ≤ n → without_domain (with_domain p d) n ≡ with_domain (without_domain p n) d
without_other p d n e h k =
    let m = d.number - 1 in
    let apart : m ≡ n - 1 → ⊥ = λ q. e (omega arith) in
    λ x. record {
      period = p.period;
      planned = set_comm p.planned m (n - 1) true false apart x;
      reservation = set_comm p.reservation m (n - 1) d.reservation 0 apart x;
      reclaimcap = set_comm p.reclaimcap m (n - 1) d.reclaimcap 0 apart x;
      writebackcap = set_comm p.writebackcap m (n - 1) d.writebackcap 0 apart x;
      writebackreservation = set_comm p.writebackreservation m (n - 1) d.writebackreservation 0 apart x;
      marked = set_comm p.marked m (n - 1) d.marked false apart x;
    }

without_all : (p : Plan) (ds : List Domain) (n : ℕ) → 1 ≤ n → has 0 (numbers ds) ≡ false → has n (numbers ds) ≡ false → without_domain (with_all p ds) n ≡ with_all (without_domain p n) ds
unfolding with_all
without_all p [] n one low new = refl
without_all p (d ∷ ds) n one low new =
    let l = has_not 0 d.number (numbers ds) low in
    let m = has_not n d.number (numbers ds) new in
    let some = l.0 in
    without_all (with_domain p d) ds n one l.1 m.1 ∙ ap (λ (q : Plan). with_all q ds) (without_other p d n m.0 (omega arith) one)

set_repeat : {A : Type 0} (m k : ℕ) (a : A) → set (replicate m a) k a ≡ replicate m a
set_repeat zero k a = refl
set_repeat (suc m) zero a = refl
set_repeat {A} (suc m) (suc k) a = ap (λ (l : List A). a ∷ l) (set_repeat m k a)

without_none : (P n : ℕ) → without_domain (no_domains P) n ≡ no_domains P
without_none P n =
    let numbers : set (replicate {A = ℕ} 16 0) (n - 1) 0 ≡ replicate 16 0 = set_repeat {A = ℕ} 16 (n - 1) 0 in
    λ x. record {
      period = P;
      planned = set_repeat 16 (n - 1) false x;
      reservation = numbers x;
      reclaimcap = numbers x;
      writebackcap = numbers x;
      writebackreservation = numbers x;
      marked = set_repeat 16 (n - 1) false x;
    }

-- the plan of the domains on both sides of one
pub plan_without : (P : ℕ) (ds : List Domain) (d : Domain) (es : List Domain) → 1 ≤ d.number → has 0 (numbers ds) ≡ false → has d.number (numbers ds) ≡ false
    → has 0 (numbers es) ≡ false → has d.number (numbers es) ≡ false → plan_of P (ds ++ es) ≡ without_domain (plan_of P (ds ++ (d ∷ es))) d.number
unfolding with_all
plan_without P ds d es one low new low' new' =
    let p = plan_of P ds in
    let n = d.number in
    let kept : without_domain p n ≡ p = without_all (no_domains P) ds n one low new ∙ ap (λ (q : Plan). with_all q ds) (without_none P n) in
    with_append (no_domains P) ds es
    ∙ ap (λ (q : Plan). with_all q es) (sym (without_same p d ∙ kept))
    ∙ sym (without_all (with_domain p d) es n one low' new')
    ∙ ap (λ (q : Plan). without_domain q n) (sym (with_append (no_domains P) ds (d ∷ es)))

-- they reserve no more
pub reserved_without : (ds : List Domain) (d : Domain) (es : List Domain) → reserved_of (ds ++ es) ≤ reserved_of (ds ++ (d ∷ es))
unfolding sum
reserved_without ds d es =
    let q : Domain → ℕ = λ x. reserves x in
    omega (
      arith,
      ap sum (map-append q ds es),
      sum_append (map q ds) (map q es),
      ap sum (map-append q ds (d ∷ es)),
      sum_append (map q ds) (q d ∷ map q es),
    )
