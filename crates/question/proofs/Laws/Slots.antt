-- Laws of the slots that lines decide, and of the one that is asked for.
-- Assumes nothing.
use mathlib.Core.Path.{◌≡◌, refl, ◌∙◌}
use mathlib.Core.Logic.{◌≢◌}
use mathlib.Core.List.{List, [], ◌∷◌}
use Prim.Native.Nat.{ℕ, ◌-◌, ◌≤◌}
use native.Mathlib.Omega.{arith}
use borrow.Author.Tests.{eq-eqb, ne_eqb}
use Rattle.table.proofs.Tables.{miss, hit}
use Rattle.regulator.specs.declared.state.State.{State}
use Rattle.script.specs.Line.{meaning_of}
use Rattle.script.specs.Replay.{Script, carried_out}
use Rattle.script.proofs.Laws.Splitting.{FirstLong, in_line, in_last, bad_refused}
use Rattle.question.specs.Slots.{Decided, slots_from, decided_by, undecided, decided, slot_at}

-- a line that is taken, one that is refused, and one that is too long
module _ (s : State) where
  pub decided_none : decided_by s [] ≡ []
  unfolding decided_by
  decided_none = refl

  pub decided_taken : (line : List ℕ) (lines : List (List ℕ)) → (carried_out s (meaning_of line)).refused ≡ 0
      → decided_by s (line ∷ lines) ≡ slots_from s (meaning_of line) (decided_by (carried_out s (meaning_of line)).state lines)
  unfolding decided_by
  decided_taken line lines e = hit _ _ _ (eq-eqb (carried_out s (meaning_of line)).refused 0 e)

  pub decided_over : (line : List ℕ) (lines : List (List ℕ)) → (carried_out s (meaning_of line)).refused ≢ 0 → decided_by s (line ∷ lines) ≡ []
  unfolding decided_by
  decided_over line lines e = miss _ _ _ (ne_eqb (carried_out s (meaning_of line)).refused 0 e)

  pub decided_long : (n : ℕ) {x : Script} → FirstLong n x → 20 ≤ n → decided_by s x.lines ≡ []
  decided_long n (in_line line lines last g) h = let m = bad_refused s 0 line (omega arith) in decided_over line lines (λ z. omega (arith, m))
  decided_long n (in_last last g) h = decided_none

-- no slot, the first, and one behind it
pub slot_none : (k : ℕ) → slot_at k [] ≡ undecided
unfolding slot_at
slot_none k = refl

module _ (k : ℕ) (d : Decided) (ds : List Decided) where
  pub slot_here : k ≡ 1 → slot_at k (d ∷ ds) ≡ decided d
  unfolding slot_at
  slot_here e = hit _ _ _ (eq-eqb k 1 e)

  pub slot_on : k ≢ 1 → slot_at k (d ∷ ds) ≡ slot_at (k - 1) ds
  unfolding slot_at
  slot_on e = miss _ _ _ (ne_eqb k 1 e)

-- slot 0 is none
pub slot_zero : (ds : List Decided) → slot_at 0 ds ≡ undecided
slot_zero [] = slot_none 0
slot_zero (d ∷ ds) = slot_on 0 d ds (λ z. omega arith) ∙ slot_zero ds
