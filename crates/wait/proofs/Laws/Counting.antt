-- How many numbers a plan lets offer: its domains, and best effort.
-- Assumes nothing.
use mathlib.Core.Path.{◌≡◌, refl, ap, ◌∙◌}
use mathlib.Core.Bool.{Bool, true, false, cond, ◌||◌}
use mathlib.Core.List.{[], ◌∷◌}
use Prim.Native.Nat.{ℕ, zero, suc, ◌+◌, ◌-◌, ◌≤◌}
use native.Mathlib.Omega.{arith}
use lib.Dec.{eqb}
use lib.ListN.{length, get_or, length-append}
use borrow.Author.Tests.{ne_eqb}
use Rattle.plan.specs.Value.{domain_of, domains_to}
use Rattle.plan.specs.declared.value.Plan.{Plan}
use Rattle.plan.specs.declared.value.Domain.{Domain}
use Rattle.regulator.specs.Turn.{after}
use Rattle.regulator.proofs.Laws.Asking.{after_is, away, away_is}
use Rattle.wait.specs.Wait.{domain_count}
use Rattle.wait.proofs.Laws.Ahead.{ahead, ahead_more, ahead_round}

-- number n may offer: it is best effort, or a planned domain
unfoldable pub may_offer : Plan → ℕ → Bool
may_offer p n = eqb n 0 || get_or p.planned (n - 1) false

module _ (p : Plan) where
  one_domain : (b : Bool) (d : Domain) → length (cond b (d ∷ []) []) ≡ cond b 1 0
  one_domain true d = refl
  one_domain false d = refl

  planned_at : (k : ℕ) → may_offer p (1 + k) ≡ get_or p.planned k false
  unfolding may_offer
  planned_at k =
      let q : 1 + k - 1 ≡ k = omega arith in
      ap (λ (b : Bool). b || get_or p.planned (1 + k - 1) false) (ne_eqb (1 + k) 0 (λ z. omega arith))
      ∙ ap (λ (i : ℕ). get_or p.planned i false) q

  -- from 1 on they are the planned domains
  domains_counted : (k : ℕ) → k ≤ 16 → ahead (may_offer p) 1 k ≡ length (domains_to p k)
  unfolding ahead domains_to
  domains_counted zero h = refl
  domains_counted (suc k) h =
      let b = get_or p.planned k false in
      let a : away 1 k ≡ 1 + k = away_is k 1 (omega arith) ∙ omega arith in
      let q : ◌≡◌ {A = ℕ} (cond (may_offer p (away 1 k)) 1 0) (cond b 1 0) = ap (λ (c : Bool). cond c 1 0) (ap (may_offer p) a ∙ planned_at k) in
      ahead_more (may_offer p) k 1
      ∙ omega (arith, q, domains_counted k (omega arith), one_domain b (domain_of p k), length-append (domains_to p k) (cond b (domain_of p k ∷ []) []))

  -- and all round one more
  pub all_counted : (n : ℕ) → n ≤ 16 → ahead (may_offer p) n 17 ≡ domain_count p + 1
  unfolding ahead may_offer
  all_counted n h =
      let e : after 0 ≡ 1 = after_is 0 (omega arith) ∙ omega arith in
      ahead_round (may_offer p) n h
      ∙ omega (arith, ap (λ (m : ℕ). ahead (may_offer p) m 16) e, domains_counted 16 (omega arith))
