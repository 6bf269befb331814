-- The records of plan A of document 01 and of its neighbours, byte by byte.
-- Assumes nothing.
use Rattle.std.specs.Prelude.{ℕ, List, [], ◌∷◌, ◌++◌, replicate}

-- the bytes of record 0, of a domain record (`mark` is byte 3), of a record that is all zero, and of one that is nobody's
abbrev pub head : (P first : ℕ) → List ℕ
head P first = P ∷ 0 ∷ first ∷ 0 ∷ replicate 12 0

abbrev pub record16 : (next number mark Q R W reservation : ℕ) → List ℕ
record16 next number mark Q R W reservation = next ∷ 0 ∷ number ∷ mark ∷ Q ∷ 0 ∷ R ∷ 0 ∷ W ∷ 0 ∷ reservation ∷ 0 ∷ replicate 4 0

abbrev pub zero16 : List ℕ
zero16 = replicate 16 0

abbrev pub leftover : List ℕ
leftover = replicate 15 0 ++ (7 ∷ [])

-- the records of plan A's domains with their links, and of two domains more: 3 reserves 1, and 4 reserves 1 for writebacks and is marked
abbrev pub one : ℕ → List ℕ
one next = record16 next 1 0 2 1 4 0

abbrev pub two : ℕ → List ℕ
two next = record16 next 2 0 1 0 0 0

abbrev pub three : ℕ → List ℕ
three next = record16 next 3 0 1 0 2 0

abbrev pub four : ℕ → List ℕ
four next = record16 next 4 1 0 4 1 1

abbrev pub plan_a : List ℕ
plan_a = head 4 1 ++ (one 2 ++ two 0)
