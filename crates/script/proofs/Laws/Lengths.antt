-- How long the lines are that the replay prints: each fits in 512 bytes.
-- Assumes nothing.
use mathlib.Core.Bool.{false}
use mathlib.Core.List.{[]}
use Prim.Native.Nat.{ℕ, zero, suc, ◌+◌, ◌*◌, ◌≤◌, ◌<◌}
use native.Mathlib.Omega.{arith}
use lib.ListN.{length, get_or, length-append}
use Rattle.table.specs.Sums.{nth}
use Rattle.plan.specs.declared.value.Plan.{Plan}
use Rattle.regulator.specs.declared.close.Counts.{Counts}
use Rattle.script.specs.Text.{header, domain_text, domains_text, steps_text, period_text, refused_text, plan_refused_text, line_refused_text}
use Rattle.script.proofs.Laws.Decimals.{either_long, decimal_long, long8, long16, long32, long64}

-- the counts of domain j + 1 have 16 bits
pub record CountsFit (c : Counts) (j : ℕ) : Type 0 where
  pub reserved : nth c.reserved j < 65536
  pub reclaimed : nth c.reclaimed j < 65536
  pub yielded : nth c.yielded j < 65536
  pub writebacks : nth c.writebacks j < 65536

-- a domain's text: a number below 100 and four counts
domain_long : (number a b c d : ℕ) → number < 100 → a < 65536 → b < 65536 → c < 65536 → d < 65536 → length (domain_text number a b c d) ≤ 27
unfolding domain_text
domain_long number a b c d h ha hb hc hd =
    simp length-append
    (omega (arith, decimal_long number 2 (omega arith) (omega arith), long16 a ha, long16 b hb, long16 c hc, long16 d hd))

domains_long : (p : Plan) (c : Counts) (n : ℕ) → n ≤ 16 → ((j : ℕ) → j < 16 → CountsFit c j) → length (domains_text p c n) ≤ 27 * n
unfolding domains_text
domains_long p c zero h fit = omega arith
domains_long p c (suc j) h fit =
    let f = fit j (omega arith) in
    let text = domain_text (j + 1) (nth c.reserved j) (nth c.reclaimed j) (nth c.yielded j) (nth c.writebacks j) in
    let short = domain_long (j + 1) _ _ _ _ (omega arith) f.reserved f.reclaimed f.yielded f.writebacks in
    let here = either_long (get_or p.planned j false) text [] 27 short (omega arith) in
    simp length-append (omega (arith, here, domains_long p c j (omega arith) fit))

pub period_long : (p : Plan) (number : ℕ) (c : Counts) → number < 4294967296 → c.idle < 65536 → c.best < 65536 → c.steps < 4294967296
    → ((j : ℕ) → j < 16 → CountsFit c j) → length (period_text p number c) ≤ 512
unfolding period_text steps_text
period_long p number c h idle best steps fit =
    simp length-append
    (omega (
      arith,
      long32 number h,
      long16 c.idle idle,
      long16 c.best best,
      domains_long p c 16 (omega arith) fit,
      long32 c.steps steps,
    ))

pub plan_refused_long : (N K : ℕ) → N < 256 → K < 65536 → length (plan_refused_text N K) ≤ 512
unfolding refused_text
plan_refused_long N K h l = simp length-append (omega (arith, long8 N h, long16 K l))

pub line_refused_long : (L N : ℕ) → L < 18446744073709551616 → N < 256 → length (line_refused_text L N) ≤ 512
unfolding refused_text
line_refused_long L N h l = simp length-append (omega (arith, long64 L h, long8 N l))

pub header_long : length header ≤ 512
unfolding header
header_long = omega arith
