-- What document 02, Point 3 says of the sums told: each is plain addition, at most sixteen, and no answer of the reader changes.
-- Assumes nothing.
use mathlib.Core.Path.{◌≡◌, refl, ap, ◌∙◌}
use mathlib.Core.Bool.{Bool, true, false, cond}
use mathlib.Core.List.{List, [], ◌∷◌, ◌++◌}
use Prim.Native.Nat.{ℕ, suc, ◌-◌, ◌≤◌}
use native.Mathlib.Nat.{zero-add}
use native.Mathlib.Omega.{arith}
use lib.ListN.{length, take, length-map}
use lib.Dec.{eqb, ltb}
use Rattle.table.specs.Sums.{nth}
use Rattle.table.specs.Lines.{first_of}
use Rattle.plan.specs.Value.{reserved_of}
use Rattle.plan.specs.Records.{period_in, domain_at}
use Rattle.plan.specs.Chain.{chain_of, AtMostSixteen, domains_in, sums_in}
use Rattle.plan.specs.Walk.{sums_held, walked_of, not_walked, way_of}
use Rattle.plan.specs.Reading.{head_table, refused_reading, way_table, accepted_of, read_with_leftovers}
use Rattle.plan.specs.Sums.{sums_told, SumsArePlain, NoAnswerChanges}
use Rattle.plan.specs.Walk.{Walked}
use Rattle.plan.proofs.Laws.Sums.{sums_length, sums_at_lem, sums_all}
use Rattle.plan.proofs.Laws.Reading.{chain_held}

pub sums_are_plain : SumsArePlain
sums_are_plain s =
    let ds = domains_in s in
    let long : length ds ≡ length (chain_of s) = length-map (chain_of s) (domain_at s) in
    record {
      one = sums_length 0 ds ∙ long;
      each = λ k low high. at k low (omega (arith, long));
      last = sums_all ds;
    }
  where
    at : (k : ℕ) → 1 ≤ k → k ≤ length (domains_in s) → nth (sums_in s) (k - 1) ≡ reserved_of (take k (domains_in s))
    at k low high =
        let e : suc (k - 1) ≡ k = omega arith in
        sums_at_lem 0 (domains_in s) (k - 1) (omega arith) ∙ zero-add (reserved_of (take (suc (k - 1)) (domains_in s)))
        ∙ ap (λ (n : ℕ). reserved_of (take n (domains_in s))) e

-- the numbers left and those of the records taken are sixteen
pub at_most_sixteen : AtMostSixteen
at_most_sixteen s = omega (arith, length-map (chain_of s) (domain_at s), (chain_held s).count)

pub no_answer_changes : NoAnswerChanges
unfolding read_with_leftovers
no_answer_changes s =
    ap (λ (n : ℕ). first_of (way_table s ++ ((ltb (period_in s) n, refused_reading 10 0) ∷ [])) (accepted_of s)) (sums_are_plain s).last

-- the sums told of a file: those of the way to its chain's end
pub told_all : (s : List ℕ) (w : Walked) → w ≡ way_of s → w.gathered.sums ≡ sums_told s
unfolding sums_told way_of
told_all s w q = ap (λ (x : Walked). x.gathered.sums) q ∙ go (eqb (first_of (head_table s) 0) 0)
  where
    go : (b : Bool) → (cond b (walked_of s) (not_walked (first_of (head_table s) 0))).gathered.sums ≡ cond b (sums_held (sums_in s)) (sums_held [])
    go true = refl
    go false = refl
