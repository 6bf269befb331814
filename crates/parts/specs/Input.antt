-- A buffer that holds one part of the input after the other, and what is kept of a part when more is read.
-- Assumes nothing.
use Rattle.std.specs.Prelude.{ℕ, ◌-◌, ◌≤◌, ◌≡◌, List, length, take, drop}
use Rattle.parts.specs.declared.input.Part.{Part}

-- the bytes from `from` to `to` stand at the front
abbrev pub Kept : (from to : ℕ) (before after : List ℕ) → Type 0
Kept from to before after = take (to - from) after ≡ take (to - from) (drop from before)

-- what was left of the part is at the front and counted, and the part is within its buffer
pub record Refilled (used filled : ℕ) (before after : List ℕ) (r : Part) : Type 0 where
  pub kept : Kept used filled before after
  pub counted : filled - used ≤ r.filled
  pub within : r.filled ≤ length after
