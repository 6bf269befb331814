-- `question::ask::read_ask` meets its contract: a byte 10 at the end, and two numbers before it.
-- Assumes nothing.
use mathlib.Core.Path.{◌≡◌, sym, ap, ◌∙◌}
use mathlib.Core.Logic.{◌≢◌}
use mathlib.Core.List.{List}
use Prim.Native.Nat.{ℕ, ◌-◌, ◌<◌}
use native.Mathlib.Omega.{arith}
use lib.ListN.{length, get_or-eq_default}
use Rattle.table.specs.Sums.{nth}
use Rattle.question.specs.Inner.{asked_by}
use Rattle.question.proofs.Laws.Answers.{unended_malformed, numbers_asked, numbers_malformed}
use borrow.Author.Rules.{rules}
use Rattle.question.proofs.ask.read_ask.Goals as goal

-- an empty file has no last byte
empty : (l : List ℕ) → length l < 1 → nth l (length l - 1) ≢ 10
empty l e z = omega (arith, get_or-eq_default l 0 {n = length l - 1} (omega arith))

pub returns-in_default : goal.returns-in_default
returns-in_default c = sym (unended_malformed _ (empty c.args.bytes.now c.in_default.len_below))

pub returns-in_default-2 : goal.returns-in_default-2
returns-in_default-2 c =
    let unended : nth c.args.bytes.now (length c.args.bytes.now - 1) ≢ 10 = search rules in
    sym (unended_malformed _ unended)

pub returns-in_err-n : goal.returns-in_err-n
returns-in_err-n c =
    let ended : nth c.args.bytes.now (length c.args.bytes.now - 1) ≡ 10 = search rules in
    ap asked_by c.from_residual.ensures ∙ sym (numbers_malformed _ ended (sym c.read_numbers.ensures ∙ c.in_err-n.was))

pub returns : goal.returns
returns c =
    let ended : nth c.args.bytes.now (length c.args.bytes.now - 1) ≡ 10 = search rules in
    sym (numbers_asked _ ended c.in_ok-n.n (sym c.read_numbers.ensures ∙ c.in_ok-n.was))
