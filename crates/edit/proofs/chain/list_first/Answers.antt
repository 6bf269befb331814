-- `edit::chain::list_first` meets its contract: record 0 and the records passed are listed.
-- Assumes nothing.
use mathlib.Core.Path.{refl, ◌∙◌}
use native.Mathlib.Omega.{arith}
use borrow.Author.Rules.{rules}
use Rattle.plan.proofs.Laws.Telling.{at_most_sixteen}
use Rattle.edit.proofs.Laws.Compaction.{source_in}
use Rattle.edit.proofs.Laws.Listing.{listing_at, listing_more, listing_all}
use Rattle.edit.proofs.chain.list_first.Goals as goal

pub loop-k-init : goal.loop-k-init
loop-k-init c = (search rules, record { within = omega arith; front = refl; long = refl })

pub offset_bounds-records-k : goal.offset_bounds-records-k
offset_bounds-records-k c = omega (arith, c.loop-k-test.true, c.requires.1, at_most_sixteen c.args.file.now)

pub bounds-records-k : goal.bounds-records-k
bounds-records-k c = omega (arith, c.loop-k-test.true, c.requires.1, at_most_sixteen c.args.file.now, c.loop-k.invariant.1.long)

pub link_of-requires : goal.link_of-requires
link_of-requires c =
    let v = c.loop-k in
    omega (arith, listing_at v.invariant.1, source_in c.args.file.now c.requires.0 v.k v.invariant.1.within)

pub offset_bounds-records-k-in-loop-k : goal.offset_bounds-records-k-in-loop-k
offset_bounds-records-k-in-loop-k c = omega (arith, c.loop-k-test.true, c.requires.1, at_most_sixteen c.args.file.now)

pub bounds-records-k-in-loop-k : goal.bounds-records-k-in-loop-k
bounds-records-k-in-loop-k c = omega (arith, c.loop-k-test.true, c.requires.1, at_most_sixteen c.args.file.now, c.loop-k.invariant.1.long)

pub loop-k-preserved : goal.loop-k-preserved
loop-k-preserved c =
    let low = c.loop-k-test.true in
    (omega (arith, low), listing_more c.loop-k.invariant.1 _ (c.from.ensures ∙ c.link_of.ensures) (omega (arith, low, c.requires.1)))

pub returns : goal.returns
returns c =
    let v = c.loop-k in
    listing_all v.invariant.1 _ (omega (arith, v.invariant.0, c.loop-k-test.false))
