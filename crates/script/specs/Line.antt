-- One script line, as bytes without its byte 10 (document 01, 'The replay program'): "A script line is a slot line, a yield line or neither".
-- Assumes nothing.
use Rattle.std.specs.Prelude.{ℕ, ◌+◌, ◌-◌, ◌*◌, List, [], ◌∷◌, map, Bool, cond, ◌&&◌, length, drop, eqb, leb}
use Prim.Native.Char.{code}
use Rattle.table.specs.Sums.{nth}
use Rattle.table.specs.Members.{each}
use Rattle.script.specs.declared.line.Line.{Line}
use Rattle.script.specs.declared.line.Line.TheVariants.{Slot, Yield, Bad}

-- a decimal digit (`code "0"` is the byte 48)
unfoldable pub is_digit : ℕ → Bool
is_digit b = leb (code "0") b && leb b (code "9")

abbrev pub digits_only : List ℕ → Bool
digits_only = each is_digit

-- one to `most` decimal digits; "Leading zeros are allowed", within them
unfoldable pub is_number : ℕ → List ℕ → Bool
is_number most bs = leb 1 (length bs) && (leb (length bs) most && digits_only bs)

-- the number that digits write, after those that write n
unfoldable pub value_from : ℕ → List ℕ → ℕ
value_from n [] = n
value_from n (b ∷ bs) = value_from (n * 10 + (b - code "0")) bs

abbrev pub value_of : List ℕ → ℕ
value_of = value_from 0

-- the bytes before the first space, and those behind it
unfoldable pub before : List ℕ → List ℕ
before [] = []
before (b ∷ bs) = cond (eqb b (code " ")) [] (b ∷ before bs)

unfoldable pub behind : List ℕ → List ℕ
behind [] = []
behind (b ∷ bs) = cond (eqb b (code " ")) bs (behind bs)

-- what a line asks for, or the number that refuses it
pub data Meaning : Type 0 where
  slot_line : (offers : List ℕ) → Meaning
  yield_line : (domain k : ℕ) → Meaning
  bad_line : (number : ℕ) → Meaning

-- "Slot: `s `, then 17 decimal digits, offers 0 to 16." Any digit makes the form; an offer above 2 is then refused with 32.
unfoldable pub is_slot : List ℕ → Bool
is_slot rest = eqb (length rest) 17 && digits_only rest

unfoldable pub offers_of : List ℕ → List ℕ
offers_of rest = map (λ (b : ℕ). b - code "0") rest

unfoldable pub slot_meaning : List ℕ → Meaning
slot_meaning rest = cond (is_slot rest) (slot_line (offers_of rest)) (bad_line 41)

-- "Yield: `y `, one or two decimal digits (domain), a space, one to four decimal digits (k)."
unfoldable pub is_yield : List ℕ → Bool
is_yield rest = is_number 2 (before rest) && is_number 4 (behind rest)

unfoldable pub yield_meaning : List ℕ → Meaning
yield_meaning rest = cond (is_yield rest) (yield_line (value_of (before rest)) (value_of (behind rest))) (bad_line 41)

-- a line that begins with a letter, `s` or `y`, and a space; the rest is behind them
abbrev pub begins : ℕ → List ℕ → Bool
begins letter line = eqb (nth line 0) letter && eqb (nth line 1) (code " ")

-- a line "of neither form" is refused with 41
unfoldable pub meaning_of : List ℕ → Meaning
meaning_of line =
    cond (begins (code "s") line) (slot_meaning (drop 2 line))
    (cond (begins (code "y") line) (yield_meaning (drop 2 line))
    (bad_line 41))

-- The document's number and values for each case of the reader's enum; the offers of a slot line lie in the lent buffer.
abbrev pub told : Line → List ℕ → Meaning
told Slot offers = slot_line offers
told (Yield domain k) offers = yield_line domain k
told (Bad number) offers = bad_line number

-- What the lent buffer holds on return: the offers of a slot line, and else what it held.
unfoldable pub offers_in : List ℕ → List ℕ → List ℕ
offers_in line buffer = cond (begins (code "s") line && is_slot (drop 2 line)) (offers_of (drop 2 line)) buffer
