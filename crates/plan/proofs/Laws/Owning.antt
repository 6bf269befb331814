-- What owning a plan tells: each of its lists has sixteen elements.
-- Assumes nothing.
use mathlib.Core.Path.{◌≡◌, sym, ◌∙◌}
use mathlib.Core.List.{List, map}
use Prim.Native.Nat.{ℕ}
use lib.ListN.{length, length-map}
use mir.Val.{Val}
use denote.Laws.{Is}
use Rattle.plan.specs.Value.{Sized}
use Rattle.plan.specs.declared.value.Plan.{Plan}
use Rattle.plan.specs.contracts.value.Plan as owned

-- an array is owned by what its elements hold
pub as_long : {A B : Type 0} {n : ℕ} (l : List A) (f : A → B) → length (map f l) ≡ n → length l ≡ n
as_long l f e = sym (length-map l f) ∙ e

pub plan_sized : (p : Plan) (vs : List Val) → Is owned.the_row p vs → Sized p
plan_sized p vs g =
    let f = g.1.1 in
    record {
      planned = f.1.0.1.0.1;
      reservation = f.1.1.0.1.0.1;
      reclaimcap = f.1.1.1.0.1.0.1;
      writebackcap = f.1.1.1.1.0.1.0.1;
      writebackreservation = f.1.1.1.1.1.0.1.0.1;
      marked = f.1.1.1.1.1.1.0.1.0.1;
    }
