-- What the functions inside the crate, and those that a second program over scripts shares, promise each other. No contract of a public
-- function without a `requires` cites this.
-- Assumes nothing.
use Rattle.std.specs.Prelude.{ℕ, ◌+◌, ◌-◌, ◌≤◌, ◌<◌, ◌≡◌, List, Bool, true, cond, ◌&&◌, Option, Some, None, Result, Ok, Err, length, take, drop, eqb, ltb}
use Rattle.table.specs.Sums.{nth}
use Rattle.script.specs.Line.{is_number, value_of, before, behind}
use Rattle.regulator.specs.Refusals.{slot_number, yield_number}
use Rattle.script.specs.Replay.{Done}
use Rattle.script.specs.declared.carrying.LineFault.{LineFault}
use Rattle.script.specs.declared.carrying.LineFault.TheVariants.{Form, Slot, Yield}
use Rattle.script.specs.Output.{Output, put}
use Rattle.script.specs.Feeding.{unended}
use Rattle.script.specs.declared.line.Numbers.{Numbers}
use Rattle.regulator.specs.declared.state.State.{State}

-- the number that bytes write in at most so many digits
unfoldable pub number_in : ℕ → List ℕ → Option ℕ
number_in most bs = cond (is_number most bs) (Some (value_of bs)) None

-- Two numbers with a space between them, of at most so many digits each, where bytes write them.
unfoldable pub numbers_in : (most more : ℕ) → List ℕ → Option Numbers
numbers_in most more bs =
    cond (is_number most (before bs) && is_number more (behind bs))
    (Some (record { first = value_of (before bs); second = value_of (behind bs) }))
    None

-- The number that refuses a line: 41 where it is of neither form, or that of the call.
abbrev pub line_number : LineFault → ℕ
line_number Form = 41
line_number (Slot e) = slot_number e
line_number (Yield e) = yield_number e

-- what a line that was carried out from s answers: 0 or the number that refused it, and the state after it
abbrev pub refused_by : Result State LineFault → ℕ
refused_by (Ok t) = 0
refused_by (Err e) = line_number e

abbrev pub state_by : State → Result State LineFault → State
state_by s (Ok t) = t
state_by s (Err e) = s

-- It did what the line asks for, and what it printed went to the buffer.
pub record Stepped (d : Done) (s : State) (r : Result State LineFault) (before after : Output) : Type 0 where
  pub number : refused_by r ≡ d.refused
  pub next : state_by s r ≡ d.state
  pub shown : after ≡ put before d.prints

-- A search for the end of the line that starts at `from` stops at its byte 10; after 20 bytes, which is more than a line of either form
-- has, so that it is refused whatever follows; or at the end of the part.
pub data Stop (part : List ℕ) (from n : ℕ) : Type 0 where
  at_ten : n < length part → nth part n ≡ 10 → Stop part from n
  too_long : n ≡ from + 20 → Stop part from n
  at_end : n ≡ length part → Stop part from n

pub record LineEnd (part : List ℕ) (from n : ℕ) : Type 0 where
  pub low : from ≤ n
  pub high : n ≤ length part
  pub clear : unended (take (n - from) (drop from part)) ≡ true
  pub stop : Stop part from n

-- the part ends before it is known what its last line is
abbrev pub open_end : (used end length : ℕ) → Bool
open_end used end length = eqb end length && ltb (end - used) 20
