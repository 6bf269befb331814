-- A replay that is fed its script part by part: what is kept between the parts, and what holds of it.
-- Assumes nothing.
use Rattle.std.specs.Prelude.{ℕ, ◌+◌, ◌*◌, ◌-◌, ◌≤◌, ◌<◌, ◌≡◌, List, [], ◌++◌, Bool, true, false, cond, not, length, drop, eqb, ltb}
use Rattle.table.specs.Sums.{sum}
use Rattle.table.specs.Members.{each}
use Rattle.regulator.specs.State.{adds_up}
use Rattle.regulator.specs.declared.state.State.{State}
use Rattle.script.specs.Replay.{split, lines_text, replay_text}
use Rattle.script.specs.Output.{output, put}
use Rattle.script.specs.declared.feeding.Run.{Run}

-- what is printed for the rest of a script: nothing more after a refusal
unfoldable pub rest_text : Run → List ℕ → List ℕ
rest_text r script = cond (eqb r.refused 0) (lines_text r.state r.line (split script).lines (split script).last) []

-- At most so many lines were taken: a slot line decides a slot, and a yield line yields 1 or more, so that a period takes 2 * 4,096
-- lines at most. So the number of a line fits 64 bits, however long the script is.
abbrev pub lines_before : State → ℕ
lines_before s = 8192 * s.closed + s.decided + sum s.yielded

-- A run that is not ended by a refusal: its state adds up, so that no line need check it.
pub record Sound (r : Run) : Type 0 where
  pub adds : r.refused ≡ 0 → adds_up r.state ≡ true
  pub lines : r.refused ≡ 0 → r.line ≤ lines_before r.state + 1

-- no byte is byte 10: no line ends here
abbrev pub unended : List ℕ → Bool
unended = each (λ (b : ℕ). not (eqb b 10))

-- fewer than `room` bytes of a buffer are free
abbrev pub lacks_room : (at length room : ℕ) → Bool
lacks_room at length room = ltb (length - at) room

-- Room that is enough for what one line prints.
abbrev pub line_room : ℕ
line_room = 512

-- From the run r with the buffer `before` to the run q with the buffer `after`, by lines of a part of the script: the text that they
-- print, which went to the buffer; and whatever bytes follow this part, all that was left to print is that text and what is left now.
-- Where at least `line_room` bytes were asked to be free for each line, no byte of the text is lost.
pub record Fed (part : List ℕ) (room : ℕ) (r : Run) (before : List ℕ) (q : Run) (after : List ℕ) : Type 0 where
  pub text : List ℕ
  pub shown : output after q.at ≡ put (output before r.at) text
  pub rest : (later : List ℕ) → rest_text r (drop r.used part ++ later) ≡ text ++ rest_text q (drop q.used part ++ later)
  pub whole : line_room ≤ room → r.at ≤ length before → q.at ≡ r.at + length text
  pub sound : Sound q
  pub within : q.used ≤ length part

-- It stopped at a refusal, where room is lacking, or where what is left of the part has no byte 10 and fewer than 20 bytes.
pub record Feeds (part : List ℕ) (room : ℕ) (r : Run) (before : List ℕ) (q : Run) (after : List ℕ) : Type 0 where
  pub fed : Fed part room r before q after
  pub lineless : q.refused ≡ 0 → lacks_room q.at (length after) room ≡ false
      → (unended (drop q.used part) ≡ true) × (length part < q.used + 20)

-- The run at the start of a script: the header, or the refusal of the plan, went to the buffer; and whatever the script is, all of the
-- output is that text and what is left to print.
pub record Started (plan : List ℕ) (before : List ℕ) (q : Run) (after : List ℕ) : Type 0 where
  pub text : List ℕ
  pub shown : output after q.at ≡ put (output before 0) text
  pub rest : (script : List ℕ) → replay_text plan script ≡ text ++ rest_text q script
  pub whole : line_room ≤ length before → q.at ≡ length text
  pub sound : Sound q
  pub none : q.used ≡ 0
