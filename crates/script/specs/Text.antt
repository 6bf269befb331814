-- The lines that the replay prints (document 01, 'The replay program'): "Each output line ends with byte 10."
-- Assumes nothing.
use Rattle.std.specs.Prelude.{ℕ, zero, suc, ◌+◌, ◌-◌, ◌/◌, ◌%◌, List, [], ◌∷◌, ◌++◌, false, cond, get_or, ltb}
use Prim.Native.String.{String, len, char_at}
use Prim.Native.Char.{code}
use Rattle.table.specs.Sums.{nth}
use Rattle.plan.specs.declared.value.Plan.{Plan}
use Rattle.regulator.specs.declared.close.Counts.{Counts}

-- the last n bytes of a text, and all of them
abbrev pub last_bytes : ℕ → String → List ℕ
last_bytes zero s = []
last_bytes (suc n) s = code (char_at s (len s - suc n)) ∷ last_bytes n s

abbrev pub bytes : String → List ℕ
bytes s = last_bytes (len s) s

-- a number in decimal digits without leading zeros; no number has more digits than `most`, which is the number itself
unfoldable pub digits_of : ℕ → ℕ → List ℕ
digits_of zero n = (code "0" + n) ∷ []
digits_of (suc most) n = cond (ltb n 10) ((code "0" + n) ∷ []) (digits_of most (n / 10) ++ ((code "0" + n % 10) ∷ []))

unfoldable pub decimal : ℕ → List ℕ
decimal n = digits_of n n

-- "the header, which is the first line shown below"
unfoldable pub header : List ℕ
header = bytes "period idle best domains\n"

-- a number behind the byte that stands before it
abbrev pub field : ℕ → ℕ → List ℕ
field mark n = mark ∷ decimal n

-- "`number:reserved+reclaimed-yieldedwwritebacks` (the letter w stands between yielded and writebacks)", behind a space
unfoldable pub domain_text : (number reserved reclaimed yielded writebacks : ℕ) → List ℕ
domain_text number reserved reclaimed yielded writebacks =
    field (code " ") number
    ++ (field (code ":") reserved ++ (field (code "+") reclaimed ++ (field (code "-") yielded ++ field (code "w") writebacks)))

-- "for each planned domain ascending": of those with a number of 1 to n
unfoldable pub domains_text : Plan → Counts → ℕ → List ℕ
domains_text p c zero = []
domains_text p c (suc j) =
    domains_text p c j
    ++ cond (get_or p.planned j false)
    (domain_text (j + 1) (nth c.reserved j) (nth c.reclaimed j) (nth c.yielded j) (nth c.writebacks j)) []

-- document 02, Point 9: "The replay line gains ` s` and the sum at its end"; byte 10 is behind it
unfoldable pub steps_text : ℕ → List ℕ
steps_text steps = bytes " s" ++ (decimal steps ++ bytes "\n")

-- "with one space between fields, a line for each closed period with its number from 1, idle, best effort and, for each planned domain";
-- then the sum of its steps
unfoldable pub period_text : Plan → ℕ → Counts → List ℕ
period_text p number c =
    decimal number ++ (field (code " ") c.idle ++ (field (code " ") c.best ++ (domains_text p c 16 ++ steps_text c.steps)))

-- "at the end `open` and T"
unfoldable pub open_text : ℕ → List ℕ
open_text T = bytes "open" ++ (field (code " ") T ++ bytes "\n")

-- a line of two numbers, each behind its words
unfoldable pub refused_text : List ℕ → ℕ → List ℕ → ℕ → List ℕ
refused_text words n more m = words ++ (field (code " ") n ++ (more ++ (field (code " ") m ++ bytes "\n")))

-- "`plan refused N at K`"
abbrev pub plan_refused_text : (N K : ℕ) → List ℕ
plan_refused_text N K = refused_text (bytes "plan refused") N (bytes " at") K

-- "`line L refused N` (L from 1)"
abbrev pub line_refused_text : (L N : ℕ) → List ℕ
line_refused_text L N = refused_text (bytes "line") L (bytes " refused") N
