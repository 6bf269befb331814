-- What the walk has gathered from the domains of a list: what is known of it, and that it stays known with one domain more.
-- Assumes nothing.
use mathlib.Core.Path.{◌≡◌, sym, ap, ◌∙◌}
use mathlib.Core.Bool.{false}
use mathlib.Core.List.{List, [], ◌∷◌, ◌++◌}
use Prim.Native.Nat.{ℕ, ◌+◌, ◌*◌, ◌≤◌, ◌<◌}
use native.Mathlib.Omega.{arith}
use lib.ListN.{length, length-append}
use Rattle.table.specs.Members.{has, last_of}
use Rattle.table.proofs.Flags.{last_none, last_snoc}
use Rattle.plan.specs.Value.{no_domains, reserves}
use Rattle.plan.specs.Chain.{sums_from}
use Rattle.plan.specs.Walk.{sums_held, with_sum, with_record}
use Rattle.plan.specs.declared.value.Domain.{Domain}
use Rattle.plan.specs.declared.chain.Sums.{Sums}
use Rattle.plan.specs.declared.chain.Gathered.{Gathered}
use Rattle.plan.proofs.Laws.Holding.{Fine, Holds, holds_none, holds_more, room, numbers}
use Rattle.plan.proofs.Laws.Sums.{sums_none, sums_snoc, sums_length, held_sum}

pub record Gathers (P : ℕ) (ds : List Domain) (g : Gathered) : Type 0 where
  pub held : Holds P ds g.plan
  pub sum : g.sum ≡ last_of 0 (sums_from 0 ds)
  pub sums : g.sums ≡ sums_held (sums_from 0 ds)
  pub small : g.sum ≤ 131070 * length ds

pub gathers_none : (P : ℕ) → Gathers P [] (record { plan = no_domains P; sum = 0; sums = sums_held [] })
gathers_none P =
    record {
      held = holds_none P;
      sum = sym (ap (last_of 0) (sums_none 0) ∙ last_none 0);
      sums = ap sums_held (sym (sums_none 0));
      small = omega arith;
    }

module _ {P : ℕ} {ds : List Domain} {g : Gathered} (v : Gathers P ds g) (d : Domain) (f : Fine P d) (unmet : has d.number (numbers ds) ≡ false) where
  few : length ds < 16
  few = room v.held d f unmet

  -- there is a place for its sum, and the sum is small enough to grow
  pub spare : (g.sums.records < 16) × (g.sum ≤ 1966050)
  spare =
      let e : g.sums.records ≡ length ds = ap (λ (m : Sums). m.records) v.sums ∙ sums_length 0 ds in
      (omega (arith, few), omega (arith, few, v.small))

  -- the sum with what it reserves, behind the sums told
  abbrev more : ℕ
  more = g.sum + reserves d

  sums_more : sums_from 0 (ds ++ (d ∷ [])) ≡ sums_from 0 ds ++ (more ∷ [])
  sums_more = sums_snoc 0 ds d ∙ ap (λ (n : ℕ). sums_from 0 ds ++ ((n + reserves d) ∷ [])) (sym v.sum)

  pub gathers_more : reserves d ≤ 131070 → Gathers P (ds ++ (d ∷ [])) (with_record g d)
  gathers_more wide =
      record {
        held = holds_more v.held d f unmet;
        sum = sym (ap (last_of 0) sums_more ∙ last_snoc 0 (sums_from 0 ds) more);
        sums =
            ap (λ (m : Sums). with_sum m more) v.sums ∙ held_sum (sums_from 0 ds) more (omega (arith, few, sums_length 0 ds))
            ∙ ap sums_held (sym sums_more);
        small = omega (arith, v.small, length-append ds (d ∷ []));
      }
