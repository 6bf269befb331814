-- `edit::dropping::place_of` meets its contract: the domain is none of those passed by.
-- Assumes nothing.
use mathlib.Core.Path.{sym, ◌∙◌}
use Prim.Native.Nat.{◌+◌, ◌≤◌}
use native.Mathlib.Omega.{arith}
use borrow.Author.Rules.{rules}
use borrow.Author.Tests.{lt-ltb, le-ltb}
use lib.ListN.{length, length-map}
use Rattle.table.proofs.Lists.{place_here, place_none}
use Rattle.plan.specs.Records.{number_at}
use Rattle.plan.specs.Chain.{chain_of}
use Rattle.edit.specs.Dropping.{numbers_in}
use Rattle.edit.proofs.Laws.Listing.{entry_in, entry_number, pass_on}
use Rattle.edit.proofs.Laws.Writing.{found}
use Rattle.edit.proofs.dropping.place_of.Goals as goal

pub loop-k-init : goal.loop-k-init
loop-k-init c = (search rules, λ i h e. omega arith)

pub number_at-requires : goal.number_at-requires
number_at-requires c =
    let k = c.loop-k.k in
    omega (arith, entry_in c.args.file.now c.args.l.count c.args.l.records c.requires.1 c.requires.0 (k + 1) (omega (arith, c.loop-k-test.true)))

pub returns-then-number_at-number : goal.returns-then-number_at-number
returns-then-number_at-number c =
    let v = c.loop-k in
    let low = c.loop-k-test.true in
    let s = c.args.file.now in
    let w = c.requires.1 in
    let is = entry_number s c.args.l.count c.args.l.records w v.k low in
    let here =
    place_here c.args.number (numbers_in s) v.k v.invariant.1 (omega (arith, length-map (chain_of s) (number_at s), w.counted, low))
    (sym is ∙ sym c.number_at.ensures ∙ c.if-number_at-number.true) in
    (sym (found s _ _ w c.args.number v.k here) ∙ lt-ltb v.k _ low, here)

pub loop-k-preserved : goal.loop-k-preserved
loop-k-preserved c =
    let v = c.loop-k in
    let low = c.loop-k-test.true in
    let s = c.args.file.now in
    let is = entry_number s c.args.l.count c.args.l.records c.requires.1 v.k low in
    (omega (arith, low), pass_on s c.args.number v.k v.invariant.1 (λ e. c.if-number_at-number.false (c.number_at.ensures ∙ is ∙ e)))

pub returns : goal.returns
returns c =
    let v = c.loop-k in
    let s = c.args.file.now in
    let all : length (numbers_in s) ≤ v.k = omega (arith, c.loop-k-test.false, c.requires.1.counted, length-map (chain_of s) (number_at s)) in
    let n = length (numbers_in s) in
    sym (found s _ _ c.requires.1 c.args.number n (place_none c.args.number (numbers_in s) (λ i h. v.invariant.1 i (omega (arith, h, all)))))
    ∙ le-ltb n _ (omega (arith, c.requires.1.counted, length-map (chain_of s) (number_at s)))
