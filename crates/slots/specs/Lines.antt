-- Slot lines that lie one behind the other in a part of a script, and the state after them.
-- Assumes nothing.
use Rattle.std.specs.Prelude.{◌≡◌, List, length, ℕ, zero, suc, ◌+◌, ◌-◌, ◌*◌, ◌≤◌, ◌<◌}
use Prim.Native.Char.{code}
use Rattle.table.specs.Sums.{nth}
use Rattle.table.specs.Ranges.{values_below}
use Rattle.regulator.specs.Turn.{steps_of}
use Rattle.regulator.specs.Close.{without_counts}
use Rattle.regulator.specs.Calls.{slot_of}
use Rattle.regulator.specs.declared.state.State.{State}

-- the bytes of a slot line: the letter, the space, seventeen digits, byte 10
abbrev pub line_bytes : ℕ
line_bytes = 20

-- the offers that seventeen digits write, from a place on
abbrev pub offers_at : List ℕ → ℕ → List ℕ
offers_at part at = values_below (λ (n : ℕ). nth part (at + n) - code "0") 17

-- the letter, the space and the byte 10 of a slot line that starts at a place
pub record Head (part : List ℕ) (at : ℕ) : Type 0 where
  pub letter : nth part at ≡ code "s"
  pub space : nth part (at + 1) ≡ code " "
  pub end : nth part (at + 19) ≡ 10

-- a slot line starts at a place, and no digit of it is above 2
pub record SlotLine (part : List ℕ) (at : ℕ) : Type 0 where
  pub head : Head part at
  pub digits : (n : ℕ) → n < 17 → (code "0" ≤ nth part (at + 2 + n)) × (nth part (at + 2 + n) ≤ code "2")

-- the state after so many slot lines from a place on, each a slot call with a verdict buffer of 17
unfoldable pub after_slots : State → List ℕ → ℕ → ℕ → State
after_slots s part from zero = s
after_slots s part from (suc k) = (slot_of (after_slots s part from k) (offers_at part (from + line_bytes * k + 2)) 17).state

-- a slot call that is not refused and does not complete its period
abbrev pub Decides : State → List ℕ → State → Type 0
Decides s offers t = slot_of s offers 17 ≡ without_counts 0 t (steps_of s offers)

-- From one place of a part to another by so many slot lines, each of them decided and none the last of its period: so nothing is
-- printed for them, and no line is refused.
pub record Carries (part : List ℕ) (s : State) (from : ℕ) (t : State) (to : ℕ) : Type 0 where
  pub count : ℕ
  pub place : to ≡ from + line_bytes * count
  pub within : to ≤ length part
  pub state : t ≡ after_slots s part from count
  pub lines : (i : ℕ) → i < count → SlotLine part (from + line_bytes * i)
  pub decides : (i : ℕ) → i < count
      → Decides (after_slots s part from i) (offers_at part (from + line_bytes * i + 2)) (after_slots s part from (i + 1))
