-- The line that is printed (document 02, Point 2): "It prints one line, the verdict and its true cause, with single spaces."
-- Assumes nothing.
use Rattle.std.specs.Prelude.{ℕ, List, [], ◌++◌, cond, eqb, ℤ, pos, nat_abs}
use Prim.Native.Char.{code}
use Rattle.std.specs.Int.Signed.{lt_z}
use Rattle.plan.specs.Reading.{read_plan}
use Rattle.regulator.specs.Calls.{open_plan}
use Rattle.cause.specs.Cause.{Word, of_claim, of_stock, of_neither, Cause, none, word, number, cap, totals, loose_and, verdict_of, cause_of}
use Rattle.cause.specs.Explaining.{no_number}
use Rattle.script.specs.Text.{bytes, decimal, field, plan_refused_text}
use Rattle.script.specs.Replay.{split}
use Rattle.question.specs.Ask.{Question, asks, malformed, question_of}
use Rattle.question.specs.Slots.{Decided, decided_by, Found, undecided, decided, slot_at}

-- a signed number: its size, below zero behind the sign
unfoldable pub signed : ℤ → List ℕ
signed z = cond (lt_z z (pos 0)) (field (code "-") (nat_abs z)) (decimal (nat_abs z))

abbrev pub word_text : Word → List ℕ
word_text of_claim = bytes "claim"
word_text of_stock = bytes "stock"
word_text of_neither = bytes "neither"

-- the cause, each of its words and numbers behind a space; "For 0 there is none."
unfoldable pub cause_text : Cause → List ℕ
cause_text none = []
cause_text (word w) = bytes " " ++ word_text w
cause_text (number n) = field (code " ") n
cause_text (cap n) = field (code " ") n
cause_text (totals yielded reclaimed) = field (code " ") yielded ++ field (code " ") reclaimed
cause_text (loose_and loose domain) = bytes " " ++ (signed loose ++ field (code " ") domain)

-- the verdict and its cause; byte 10 ends the line
unfoldable pub told_text : ℕ → Cause → List ℕ
told_text verdict c = decimal verdict ++ (cause_text c ++ bytes "\n")

-- "A refusal prints `ask refused N`"
unfoldable pub ask_refused_text : ℕ → List ℕ
ask_refused_text N = bytes "ask refused" ++ (field (code " ") N ++ bytes "\n")

-- in a decided slot: "62 the number is neither 0 nor planned in that slot, checked last"
unfoldable pub slot_text : Decided → (n : ℕ) → List ℕ
slot_text d n =
    cond (no_number d.given.plan n) (ask_refused_text 62) (told_text (verdict_of d.given d.offers n) (cause_of d.given d.offers n))

-- "61 the script does not decide that slot"
abbrev pub found_text : Found → (n : ℕ) → List ℕ
found_text undecided n = ask_refused_text 61
found_text (decided d) n = slot_text d n

-- of a question that is well formed: "a refused plan its line of the replay"
unfoldable pub asked_text : (plan script : List ℕ) (slot n : ℕ) → List ℕ
asked_text plan script slot n =
    let r = read_plan plan in
    cond (eqb r.refused 0)
    (found_text (slot_at slot (decided_by (open_plan r.plan).state (split script).lines)) n)
    (plan_refused_text r.refused r.place)

-- All that is printed, from the bytes of the files `plan` and `ask` and of the script: "63 `ask` is malformed, checked first".
abbrev pub answer_to : Question → (plan script : List ℕ) → List ℕ
answer_to (asks slot n) plan script = asked_text plan script slot n
answer_to malformed plan script = ask_refused_text 63

unfoldable pub why_text : (plan ask script : List ℕ) → List ℕ
why_text plan ask script = answer_to (question_of ask) plan script
