-- `script::feeding::finish` meets its contract: the lines of the part, and then the end of the text.
-- Assumes nothing.
use mathlib.Core.Path.{◌≡◌, sym}
use mathlib.Core.Bool.{true}
use mathlib.Core.List.{List, []}
use Prim.Native.Nat.{ℕ, ◌-◌, ◌≤◌}
use native.Mathlib.Omega.{arith}
use lib.ListN.{length, drop, length-drop, drop_of_length-le}
use borrow.Author.Tests.{le-ltb}
use Rattle.script.specs.Feeding.{unended, Feeds}
use Rattle.script.specs.declared.feeding.Run.{Run}
use Rattle.script.proofs.Laws.Putting.{put_none}
use Rattle.script.proofs.Laws.Feeding.{rest_over, ends_open, ends_refused, fed_ends, shown_back}
use borrow.Author.Rules.{rules}
use Rattle.script.proofs.feeding.finish.Goals as goal

-- A run that was fed a part, asked for no room and is not ended by a refusal left no whole line of the part.
no_line : {part : List ℕ} {r : Run} {b : List ℕ} {q : Run} {d : List ℕ} → Feeds part 0 r b q d → q.refused ≡ 0
    → unended (drop q.used part) ≡ true
no_line {q = q} {d = d} f live = (f.lineless live (le-ltb (length d - q.at) 0 (omega arith))).0

pub returns-then-r-ne0 : goal.returns-then-r-ne0
returns-then-r-ne0 c = fed_ends _ _ _ _ _ _ c.feed-r.ensures.fed [] _ _ (rest_over _ _ c.if-r-ne0.true) (sym (put_none _))

pub returns-then-r-part : goal.returns-then-r-part
returns-then-r-part c =
    let live = c.if-r-ne0.false in
    let part = c.args.part.now in
    let left : 1 ≤ length (drop c.feed-r.result.used part) = omega (arith, length-drop c.feed-r.result.used part, c.if-r-part.true) in
    let told = fed_ends _ _ _ _ _ _ c.feed-r.ensures.fed _ _ _ (ends_refused _ live _ (no_line c.feed-r.ensures live) left) c.put_line_refused.ensures.more in
    shown_back (search rules) told

pub returns : goal.returns
returns c =
    let live = c.if-r-ne0.false in
    let none = drop_of_length-le c.args.part.now c.if-r-part.false in
    let told = fed_ends _ _ _ _ _ _ c.feed-r.ensures.fed _ _ _ (ends_open _ live _ (no_line c.feed-r.ensures live) none) c.put_open.ensures.more in
    shown_back (search rules) told
