-- The file `ask` (document 02, Point 2): "a slot number (from 1 over the run) and an offering number".
-- Assumes nothing.
use Rattle.std.specs.Prelude.{ℕ, ◌-◌, List, Bool, cond, ◌&&◌, length, take, eqb}
use Rattle.table.specs.Sums.{nth}
use Rattle.script.specs.Line.{is_number, value_of, before, behind}

-- what the file asks, or that it is malformed
pub data Question : Type 0 where
  asks : (slot number : ℕ) → Question
  malformed : Question

-- all bytes but the last
abbrev pub but_last : List ℕ → List ℕ
but_last bs = take (length bs - 1) bs

-- "one to nine digits, a space, one or two digits, byte 10 at the end". (Digits leave no other byte 10, and nothing behind it.)
unfoldable pub is_ask : List ℕ → Bool
is_ask bs = eqb (nth bs (length bs - 1)) 10 && (is_number 9 (before (but_last bs)) && is_number 2 (behind (but_last bs)))

unfoldable pub question_of : List ℕ → Question
question_of bs = cond (is_ask bs) (asks (value_of (before (but_last bs))) (value_of (behind (but_last bs)))) malformed
