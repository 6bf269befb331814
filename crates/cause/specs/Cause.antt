-- The cause of a verdict (document 02, Point 2): "the verdict and its true cause".
-- Assumes nothing.
use Rattle.std.specs.Prelude.{ℕ, ◌+◌, ◌-◌, List, [], ◌∷◌, Bool, eqb, ltb, ℤ}
use Rattle.table.specs.Sums.{nth, sum}
use Rattle.table.specs.Ranges.{lowest}
use Rattle.table.specs.Lines.{first_of}
use Rattle.regulator.specs.Verdict.{claim_of, waiting, loose}
use Rattle.regulator.specs.Turn.{granted, verdicts}
use Rattle.regulator.specs.declared.state.State.{State}
use Rattle.cause.specs.declared.cause.Told.{Told}
use Rattle.cause.specs.declared.cause.Told.TheVariants.{Nothing, Claim, Stock, Neither, Granted, Cap, Totals, Blocked}

-- "the word `claim`, `stock` or `neither`"
pub data Word : Type 0 where
  of_claim : Word
  of_stock : Word
  of_neither : Word

-- What is told of a verdict, beside the verdict itself: nothing; a word; the number granted; a cap; what all domains yielded and reclaimed;
-- or loose and a domain.
pub data Cause : Type 0 where
  none : Cause
  word : Word → Cause
  number : ℕ → Cause
  cap : ℕ → Cause
  totals : (yielded reclaimed : ℕ) → Cause
  loose_and : (loose : ℤ) → (domain : ℕ) → Cause

-- The word of a pass: best effort uses neither claim nor stock; a domain uses the claim of the kind that it offers, if it has any. Point 6:
-- a writeback without it uses no stock, so it is "`neither`", and an access uses the stock.
unfoldable pub word_for : (best claimed writeback : Bool) → Word
word_for best claimed writeback = first_of ((best, of_neither) ∷ (claimed, of_claim) ∷ (writeback, of_neither) ∷ []) of_stock

-- The cause of a verdict, of what can be told: the word of the pass, the number granted, the caps W and R of the number, what all domains
-- yielded and reclaimed, loose, and the lowest domain waiting on claim.
unfoldable pub cause_from : (verdict : ℕ) (pass : Word) (granted W R yielded reclaimed : ℕ) (loose : ℤ) (domain : ℕ) → Cause
cause_from verdict pass granted W R yielded reclaimed loose domain =
    first_of
    -- "For 0 there is none."
    ((eqb verdict 0, none)
    -- "For 1 it is the word `claim`, `stock` or `neither`."
    ∷ (eqb verdict 1, word pass)
    -- "For 2 the number granted."
    ∷ (eqb verdict 2, number granted)
    -- "For 3 and 4 the cap."
    ∷ (eqb verdict 3, cap W)
    ∷ (eqb verdict 4, cap R)
    -- "For 5 what all domains yielded, then reclaimed, so far in the period." (Point 11: yields by forecast are among them.)
    ∷ (eqb verdict 5, totals yielded reclaimed)
    ∷ [])
    -- "For 6 loose, then the lowest domain waiting on claim."
    (loose_and loose domain)

-- the word of a pass of number n, in a slot that a state and offers decide
abbrev pub word_of : State → List ℕ → (n : ℕ) → Word
word_of s offers n =
    word_for (eqb n 0) (ltb 0 (claim_of (nth offers n) (nth s.claim (n - 1)) (nth s.writebackclaim (n - 1)))) (eqb (nth offers n) 2)

-- The cause of a verdict of number n in that slot. All is told as it stands before the slot. (Domain n has index n − 1 in the lists; of
-- best effort, which has no caps, neither 3 nor 4 is ever told.)
unfoldable pub cause_at : State → List ℕ → (n verdict : ℕ) → Cause
cause_at s offers n verdict =
    cause_from verdict (word_of s offers n) (granted s offers) (nth s.plan.writebackcap (n - 1)) (nth s.plan.reclaimcap (n - 1))
    (sum s.yielded) (sum s.reclaimed) (loose s) (lowest (waiting s offers) 16 + 1)

-- the verdict of number n, and its cause
abbrev pub verdict_of : State → List ℕ → (n : ℕ) → ℕ
verdict_of s offers n = nth (verdicts s offers) n

abbrev pub cause_of : State → List ℕ → (n : ℕ) → Cause
cause_of s offers n = cause_at s offers n (verdict_of s offers n)

-- Document 02's words and numbers for each case of the call's enum.
abbrev pub told_by : Told → Cause
told_by Nothing = none
told_by Claim = word of_claim
told_by Stock = word of_stock
told_by Neither = word of_neither
told_by (Granted n) = number n
told_by (Cap n) = cap n
told_by (Totals yielded reclaimed) = totals yielded reclaimed
told_by (Blocked loose domain) = loose_and loose domain
