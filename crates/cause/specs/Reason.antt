-- "The cause is proved to be what the rules gave in that slot" (document 02, Point 2): what each verdict and its cause tell of the slot's
-- own verdicts, of its answer and of the state. Nothing here cites the definition of the cause but the claim at the end.
-- Assumes nothing.
use Rattle.std.specs.Prelude.{ℕ, ◌+◌, ◌-◌, ◌≤◌, ◌<◌, ◌≡◌, ◌≢◌, ◌⊎◌, List, true, false, cond, length, pos}
use Rattle.std.specs.Int.Signed.{le_z}
use Rattle.table.specs.Sums.{nth, sum, raised, lowered}
use Rattle.regulator.specs.Verdict.{claim_of, waiting, loose}
use Rattle.regulator.specs.Close.{counts_of, Answer}
use Rattle.regulator.specs.Calls.{slot_of, verdicts_in}
use Rattle.regulator.specs.declared.state.State.{State}
use Rattle.regulator.specs.declared.close.Counts.{Counts}
use Rattle.cause.specs.Cause.{of_claim, of_stock, of_neither, Cause, none, word, number, cap, totals, loose_and, cause_of}

-- the period's counts with the slot in them: those told where the slot completes the period, and else those of the state returned
abbrev pub counts_after : Answer → Counts
counts_after a = cond a.complete a.counts (counts_of a.state)

-- What a slot leaves. Where the period goes on: the claims of accesses, those of writebacks, and the stock. (The slot that completes it
-- returns a state in which they start afresh.) And always: the counts of passes.
pub record Leaves (a : Answer) (claim writebackclaim : List ℕ) (stock : ℕ) (reserved reclaimed writebacks : List ℕ) (best : ℕ) : Type 0 where
  pub held : a.complete ≡ false → (a.state.claim ≡ claim) × (a.state.writebackclaim ≡ writebackclaim) × (a.state.stock ≡ stock)
  pub counted : ((counts_after a).reserved ≡ reserved) × ((counts_after a).reclaimed ≡ reclaimed) × ((counts_after a).writebacks ≡ writebacks)
      × ((counts_after a).best ≡ best)

-- What holds of number n with a verdict and its cause, in a slot that state s and these offers decide, with these verdicts and this
-- answer. Number j + 1 is the domain at index j.
pub data Reason (s : State) (offers verdicts : List ℕ) (a : Answer) : (n verdict : ℕ) → Cause → Type 0 where
  -- 0: no offer
  no_offer : (n : ℕ) → nth offers n ≡ 0 → Reason s offers verdicts a n 0 none
  -- 1, `claim`: an access that uses 1 of the access claim
  access_claim : (j : ℕ)
      → nth offers (j + 1) ≡ 1
      → 0 < nth s.claim j
      → Leaves a (lowered s.claim j 1) s.writebackclaim s.stock (raised s.reserved j 1) s.reclaimed s.writebacks s.best
      → Reason s offers verdicts a (j + 1) 1 (word of_claim)
  -- 1, `claim`: a writeback that uses 1 of the writeback claim
  writeback_claim : (j : ℕ)
      → nth offers (j + 1) ≡ 2
      → 0 < nth s.writebackclaim j
      → Leaves a s.claim (lowered s.writebackclaim j 1) s.stock s.reserved s.reclaimed (raised s.writebacks j 1) s.best
      → Reason s offers verdicts a (j + 1) 1 (word of_claim)
  -- 1, `stock`: an access without claim, which uses 1 of the stock
  access_stock : (j : ℕ)
      → nth offers (j + 1) ≡ 1
      → nth s.claim j ≡ 0
      → 0 < s.stock
      → Leaves a s.claim s.writebackclaim (s.stock - 1) s.reserved (raised s.reclaimed j 1) s.writebacks s.best
      → Reason s offers verdicts a (j + 1) 1 (word of_stock)
  -- 1, `neither`: a writeback without claim, which uses no claim and no stock
  writeback_neither : (j : ℕ)
      → nth offers (j + 1) ≡ 2
      → nth s.writebackclaim j ≡ 0
      → Leaves a s.claim s.writebackclaim s.stock s.reserved s.reclaimed (raised s.writebacks j 1) s.best
      → Reason s offers verdicts a (j + 1) 1 (word of_neither)
  -- 1, `neither`: best effort
  best_neither : nth offers 0 ≢ 0
      → Leaves a s.claim s.writebackclaim s.stock s.reserved s.reclaimed s.writebacks (s.best + 1)
      → Reason s offers verdicts a 0 1 (word of_neither)
  -- 2: it passes, and another number has verdict 1
  other_granted : (n other : ℕ) → nth offers n ≢ 0 → other ≢ n → nth verdicts other ≡ 1 → Reason s offers verdicts a n 2 (number other)
  -- 3: it offers a writeback, and its writebacks are W
  writebacks_full : (j W : ℕ)
      → nth offers (j + 1) ≡ 2
      → nth s.plan.writebackcap j ≡ W
      → nth s.writebacks j ≡ W
      → Reason s offers verdicts a (j + 1) 3 (cap W)
  -- 4: it offers an access without claim, and its reclaimed passes are R
  reclaimed_full : (j R : ℕ)
      → nth offers (j + 1) ≡ 1
      → nth s.claim j ≡ 0
      → nth s.plan.reclaimcap j ≡ R
      → nth s.reclaimed j ≡ R
      → Reason s offers verdicts a (j + 1) 4 (cap R)
  -- 5: it offers an access without claim, below R, and the stock is 0: all that was yielded is reclaimed
  stock_empty : (j yielded reclaimed : ℕ)
      → nth offers (j + 1) ≡ 1
      → nth s.claim j ≡ 0
      → nth s.reclaimed j < nth s.plan.reclaimcap j
      → s.stock ≡ 0
      → sum s.yielded ≡ yielded
      → sum s.reclaimed ≡ reclaimed
      → yielded ≡ reclaimed
      → Reason s offers verdicts a (j + 1) 5 (totals yielded reclaimed)
  -- 6: it is best effort or has no claim of the kind that it offers; loose is at most 0, and the domain at index k is the lowest that is
  -- waiting on claim
  held_back : (n k : ℕ)
      → nth offers n ≢ 0
      → (n ≡ 0) ⊎ (claim_of (nth offers n) (nth s.claim (n - 1)) (nth s.writebackclaim (n - 1)) ≡ 0)
      → le_z (loose s) (pos 0) ≡ true
      → k < 16
      → waiting s offers k ≡ true
      → ((i : ℕ) → i < k → waiting s offers i ≡ false)
      → Reason s offers verdicts a n 6 (loose_and (loose s) (k + 1))

-- The cause of the verdict of number n has its reason, and no other cause has.
pub record TrueCause (s : State) (offers verdicts : List ℕ) (a : Answer) (n : ℕ) : Type 0 where
  pub holds : Reason s offers verdicts a n (nth verdicts n) (cause_of s offers n)
  pub only : (c : Cause) → Reason s offers verdicts a n (nth verdicts n) c → c ≡ cause_of s offers n

-- Of every state, offers and lent buffer, where the slot is not refused, and of every number (theorem `cause_is_true`).
abbrev pub CauseIsTrue : Type 0
CauseIsTrue = (s : State) (offers buffer : List ℕ) → (slot_of s offers (length buffer)).refused ≡ 0 → (n : ℕ) → n ≤ 16
    → TrueCause s offers (verdicts_in s offers buffer) (slot_of s offers (length buffer)) n
