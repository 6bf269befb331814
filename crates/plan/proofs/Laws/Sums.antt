-- Laws of the sums that the walk tells: one more, how many there are, each of them by plain addition, and the places that
-- hold them.
-- Assumes nothing.
use mathlib.Core.Path.{◌≡◌, refl, sym, ap, ◌∙◌}
use mathlib.Core.List.{List, [], ◌∷◌, ◌++◌, append_assoc}
use Prim.Native.Nat.{ℕ, zero, suc, ◌+◌, ◌-◌, ◌<◌}
use native.Mathlib.Nat.{zero-add}
use native.Mathlib.Omega.{arith}
use lib.ListN.{length, get_or, take, set, replicate, length-append}
use lib.Seq.{set-append_seam}
use Rattle.table.specs.Sums.{sum}
use Rattle.table.specs.Members.{last_of}
use Rattle.plan.specs.Value.{reserves, reserved_of}
use Rattle.plan.specs.Chain.{sums_from}
use Rattle.plan.specs.Walk.{sums_held, with_sum}
use Rattle.plan.specs.declared.value.Domain.{Domain}

-- none yet, and one more at the end
pub sums_none : (b : ℕ) → sums_from b [] ≡ []
unfolding sums_from
sums_none b = refl

pub sums_snoc : (b : ℕ) (ds : List Domain) (d : Domain) → sums_from b (ds ++ (d ∷ [])) ≡ sums_from b ds ++ ((last_of b (sums_from b ds) + reserves d) ∷ [])
unfolding sums_from last_of
sums_snoc b [] d = refl
sums_snoc b (x ∷ ds) d = ap (λ (l : List ℕ). (b + reserves x) ∷ l) (sums_snoc (b + reserves x) ds d)

pub sums_length : (b : ℕ) (ds : List Domain) → length (sums_from b ds) ≡ length ds
unfolding sums_from
sums_length b [] = refl
sums_length b (d ∷ ds) = ap suc (sums_length (b + reserves d) ds)

-- each is plain addition, and so is the last
pub sums_at_lem : (b : ℕ) (ds : List Domain) (k : ℕ) → k < length ds → get_or (sums_from b ds) k 0 ≡ b + reserved_of (take (suc k) ds)
unfolding sums_from sum
sums_at_lem b [] k h = absurd (omega arith)
sums_at_lem b (d ∷ ds) zero h = omega arith
sums_at_lem b (d ∷ ds) (suc k) h = omega (arith, sums_at_lem (b + reserves d) ds k (omega arith))

sums_last : (b : ℕ) (ds : List Domain) → last_of b (sums_from b ds) ≡ b + reserved_of ds
unfolding sums_from last_of sum
sums_last b [] = omega arith
sums_last b (d ∷ ds) = omega (arith, sums_last (b + reserves d) ds)

pub sums_all : (ds : List Domain) → last_of 0 (sums_from 0 ds) ≡ reserved_of ds
sums_all ds = sums_last 0 ds ∙ zero-add (reserved_of ds)

-- where the places hold a list, they hold it with one sum more
pub held_sum : (l : List ℕ) (x : ℕ) → length l < 16 → with_sum (sums_held l) x ≡ sums_held (l ++ (x ∷ []))
held_sum l x h =
    let more : length l + 1 ≡ length (l ++ (x ∷ [])) = sym (length-append l (x ∷ [])) in
    let left : 16 - length l ≡ suc (16 - (length l + 1)) = omega arith in
    let places : set (l ++ replicate (16 - length l) 0) (length l) x ≡ (l ++ (x ∷ [])) ++ replicate (16 - length (l ++ (x ∷ []))) 0 =
    ap (λ (n : ℕ). set (l ++ replicate n 0) (length l) x) left ∙ set-append_seam l 0 (replicate (16 - (length l + 1)) 0) x
    ∙ sym (append_assoc l (x ∷ []) (replicate (16 - (length l + 1)) 0))
    ∙ ap (λ (n : ℕ). (l ++ (x ∷ [])) ++ replicate (16 - n) 0) more in
    λ i. record { records = more i; told = places i }
