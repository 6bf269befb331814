-- `why::advance` meets its contract.
-- Assumes nothing.
use mathlib.Core.Path.{sym}
use mathlib.Core.List.{List}
use Prim.Native.Nat.{ℕ}
use native.Mathlib.Omega.{arith}
use lib.ListN.{length, take}
use lib.Seq.{length-take-le}
use Rattle.question.specs.Seeking.{Seeks}
use Rattle.question.specs.declared.seeking.Search.{Search}
use Rattle.why.specs.Buffers.{Within}
use Rattle.why.proofs.advance.Goals as goal

-- A search through the lines of the part leaves all within the buffer.
sought_within : {q r : Search} {filled : ℕ} (text : List ℕ) → Within q filled (length text) → Seeks (take filled text) q r
    → Within r filled (length text)
sought_within {filled = filled} text w f =
    record { sound = f.sound; used = omega (arith, f.within, length-take-le filled text w.part); part = w.part }

pub slice_bounds-seek-end : goal.slice_bounds-seek-end
slice_bounds-seek-end g c = c.requires.part

pub slice_bounds-seek-end-2 : goal.slice_bounds-seek-end-2
slice_bounds-seek-end-2 g c = sym (length-take-le c.args.s.part.filled c.args.text.now c.requires.part)

pub seek-search-requires : goal.seek-search-requires
seek-search-requires g c =
    let w = c.requires in
    record { sound = w.sound; used_in_bounds = omega (arith, w, length-take-le c.args.s.part.filled c.args.text.now w.part) }

pub read_more-requires : goal.read_more-requires
read_more-requires g c = sought_within _ c.requires c.seek-search.ensures

pub returns-then-goes_on : goal.returns-then-goes_on
returns-then-goes_on g c = c.read_more.ensures.within

pub returns : goal.returns
returns g c = sought_within _ c.requires c.seek-search.ensures
