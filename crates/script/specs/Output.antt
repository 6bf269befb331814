-- Text that goes to a lent buffer, byte by byte, as far as the buffer reaches.
-- Assumes nothing.
use Rattle.std.specs.Prelude.{ℕ, ◌+◌, ◌≡◌, List, [], ◌∷◌, ◌++◌, cond, length, take, drop, set, ltb}
use Rattle.script.specs.declared.output.Text.{Text}

-- what the buffer holds, and how many bytes of it are text
pub record Output : Type 0 where
  pub buffer : List ℕ
  pub count : ℕ

abbrev pub output : List ℕ → ℕ → Output
output buffer count = record { buffer = buffer; count = count }

-- a byte more; where the buffer is full nothing changes
unfoldable pub put_byte : Output → ℕ → Output
put_byte o b = cond (ltb o.count (length o.buffer)) (output (set o.buffer o.count b) (o.count + 1)) o

-- a text more
unfoldable pub put : Output → List ℕ → Output
put o [] = o
put o (b ∷ bs) = put (put_byte o b) bs

-- what the struct of the code holds
abbrev pub shown : Text → Output
shown t = output t.out.now t.at

-- a text more went to the same lent buffer
pub record Puts (old new : Text) (text : List ℕ) : Type 0 where
  pub same : new.out.ghost_name ≡ old.out.ghost_name
  pub more : shown new ≡ put (shown old) text

-- What a buffer holds when a text was put at its start: as much of the text as fits, and behind it what it held.
abbrev pub holding : List ℕ → List ℕ → List ℕ
holding text buffer = take (length buffer) text ++ drop (length text) buffer
