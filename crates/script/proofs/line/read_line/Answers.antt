-- `script::line::read_line` meets its contract.
-- Assumes nothing.
use mathlib.Core.Path.{◌≡◌, sym, ap, ◌∙◌}
use mathlib.Core.Logic.{◌≢◌}
use mathlib.Core.Bool.{cond}
use mathlib.Core.List.{List}
use Prim.Native.Nat.{ℕ, ◌-◌, ◌<◌}
use native.Mathlib.Omega.{arith}
use lib.ListN.{length, take, drop, length-drop, get_or-eq_default}
use lib.Seq.{take_all}
use Rattle.table.specs.Sums.{nth}
use Rattle.script.specs.Line.{is_slot, offers_of, slot_meaning, yield_meaning}
use Rattle.script.proofs.Laws.Reading.{line_unspaced, line_other, line_slot, line_yield}
use borrow.Author.Rules.{rules}
use Rattle.script.proofs.line.read_line.Goals as goal

-- a line of one byte or none
no_space : (l : List ℕ) → length l < 2 → nth l 1 ≢ 32
no_space l h e = let none : nth l 1 ≡ 0 = get_or-eq_default l 0 {n = 1} (omega (arith, h)) in omega (arith, none, e)

rest_is : (l : List ℕ) → take (length l - 2) (drop 2 l) ≡ drop 2 l
rest_is l = take_all (length l - 2) (drop 2 l) (omega (arith, length-drop 2 l))

pub returns-in_default-clause-told : goal.returns-in_default-clause-told
returns-in_default-clause-told c = sym (line_unspaced c.args.line.now (no_space _ c.in_default.len_below)).0

pub returns-in_default-clause-offers : goal.returns-in_default-clause-offers
returns-in_default-clause-offers c = sym ((line_unspaced c.args.line.now (no_space _ c.in_default.len_below)).1 _)

pub returns-in_default-2-clause-told : goal.returns-in_default-2-clause-told
returns-in_default-2-clause-told c =
    let other : nth c.args.line.now 1 ≢ 32 = search rules in
    sym (line_unspaced c.args.line.now other).0

pub returns-in_default-2-clause-offers : goal.returns-in_default-2-clause-offers
returns-in_default-2-clause-offers c =
    let other : nth c.args.line.now 1 ≢ 32 = search rules in
    sym ((line_unspaced c.args.line.now other).1 _)

pub returns-in-115-clause-told : goal.returns-in-115-clause-told
returns-in-115-clause-told c =
    let l = c.args.line.now in
    let letter : nth l 0 ≡ 115 = search rules in
    let space : nth l 1 ≡ 32 = search rules in
    c.read_slot.ensures.told ∙ ap slot_meaning (rest_is l) ∙ sym (line_slot l letter space).0

pub returns-in-115-clause-offers : goal.returns-in-115-clause-offers
returns-in-115-clause-offers c =
    let l = c.args.line.now in
    let b = c.args.offers.now in
    let letter : nth l 0 ≡ 115 = search rules in
    let space : nth l 1 ≡ 32 = search rules in
    c.read_slot.ensures.offers ∙ ap (λ (x : List ℕ). cond (is_slot x) (offers_of x) b) (rest_is l) ∙ sym ((line_slot l letter space).1 b)

pub returns-in-121-clause-told : goal.returns-in-121-clause-told
returns-in-121-clause-told c =
    let l = c.args.line.now in
    let letter : nth l 0 ≡ 121 = search rules in
    let space : nth l 1 ≡ 32 = search rules in
    c.read_yield.ensures _ ∙ ap yield_meaning (rest_is l) ∙ sym (line_yield l (omega (arith, letter)) letter space).0

pub returns-in-121-clause-offers : goal.returns-in-121-clause-offers
returns-in-121-clause-offers c =
    let l = c.args.line.now in
    let letter : nth l 0 ≡ 121 = search rules in
    let space : nth l 1 ≡ 32 = search rules in
    sym ((line_yield l (omega (arith, letter)) letter space).1 _)

pub returns-in_default-letter-clause-told : goal.returns-in_default-letter-clause-told
returns-in_default-letter-clause-told c =
    let l = c.args.line.now in
    let no_slot : nth l 0 ≢ 115 = search rules in
    let no_yield : nth l 0 ≢ 121 = search rules in
    sym (line_other l no_slot no_yield).0

pub returns-in_default-letter-clause-offers : goal.returns-in_default-letter-clause-offers
returns-in_default-letter-clause-offers c =
    let l = c.args.line.now in
    let no_slot : nth l 0 ≢ 115 = search rules in
    let no_yield : nth l 0 ≢ 121 = search rules in
    sym ((line_other l no_slot no_yield).1 _)
