-- `script::feeding::feed` meets its contract.
-- Assumes nothing.
use mathlib.Core.Path.{sym, ◌∙◌}
use mathlib.Core.Bool.{false≢true}
use Prim.Native.Nat.{◌≤◌}
use native.Mathlib.Omega.{arith}
use lib.ListN.{length}
use Rattle.script.specs.Feeding.{Sound, Fed}
use Rattle.script.proofs.Laws.Feeding.{fed_none, fed_then, fed_lineless, fed_less}
use borrow.Author.Rules.{rules}
use Rattle.script.proofs.feeding.feed.Goals as goal

pub loop-r-init : goal.loop-r-init
loop-r-init c =
    let sound : Sound c.args.run = search rules in
    let within : c.args.run.used ≤ length c.args.part.now = search rules in
    let a = c.args in
    fed_none a.part.now a.room a.run a.out.now sound within

pub returns : goal.returns
returns c = record { fed = c.loop-r.invariant; lineless = λ e. absurd (c.loop-r-test.false e) }

pub plain_lines-r-requires-clause-sound : goal.plain_lines-r-requires-clause-sound
plain_lines-r-requires-clause-sound c =
    let fed = c.loop-r.invariant in
    fed.sound

pub plain_lines-r-requires-clause-refused_value : goal.plain_lines-r-requires-clause-refused_value
plain_lines-r-requires-clause-refused_value c = c.loop-r-test.true

pub plain_lines-r-requires-clause-used_in_bounds : goal.plain_lines-r-requires-clause-used_in_bounds
plain_lines-r-requires-clause-used_in_bounds c =
    let fed = c.loop-r.invariant in
    fed.within

pub returns-then-lacks_room : goal.returns-then-lacks_room
returns-then-lacks_room c =
    let plain : (let a = c.args in
    Fed a.part.now a.room a.run a.out.now c.plain_lines-r.result c.loop-r.out) =
    let a = c.args in
    fed_then a.part.now a.room a.run a.out.now c.loop-r.r c.loop-r.out c.plain_lines-r.result c.loop-r.out
    c.loop-r.invariant (c.plain_lines-r.ensures.by_index a.room c.loop-r.out) in
    record {
      fed = plain;
      lineless = λ e f. absurd (false≢true (sym f ∙ sym c.lacks_room.ensures ∙ c.if-lacks_room.true));
    }

pub line_end-end-requires : goal.line_end-end-requires
line_end-end-requires c =
    let plain : (let a = c.args in
    Fed a.part.now a.room a.run a.out.now c.plain_lines-r.result c.loop-r.out) =
    let a = c.args in
    fed_then a.part.now a.room a.run a.out.now c.loop-r.r c.loop-r.out c.plain_lines-r.result c.loop-r.out
    c.loop-r.invariant (c.plain_lines-r.ensures.by_index a.room c.loop-r.out) in
    (plain).within

pub is_open_end-requires : goal.is_open_end-requires
is_open_end-requires c = c.line_end-end.ensures.low

pub returns-then-is_open_end : goal.returns-then-is_open_end
returns-then-is_open_end c =
    let plain : (let a = c.args in
    Fed a.part.now a.room a.run a.out.now c.plain_lines-r.result c.loop-r.out) =
    let a = c.args in
    fed_then a.part.now a.room a.run a.out.now c.loop-r.r c.loop-r.out c.plain_lines-r.result c.loop-r.out
    c.loop-r.invariant (c.plain_lines-r.ensures.by_index a.room c.loop-r.out) in
    let part = c.args.part.now in
    record {
      fed = plain;
      lineless = λ z f. fed_lineless part c.plain_lines-r.result.used c.line_end-end.result c.line_end-end.ensures (sym c.is_open_end.ensures ∙ c.if-is_open_end.true);
    }

pub next_line-r-requires-clause-sound : goal.next_line-r-requires-clause-sound
next_line-r-requires-clause-sound c =
    let plain : (let a = c.args in
    Fed a.part.now a.room a.run a.out.now c.plain_lines-r.result c.loop-r.out) =
    let a = c.args in
    fed_then a.part.now a.room a.run a.out.now c.loop-r.r c.loop-r.out c.plain_lines-r.result c.loop-r.out
    c.loop-r.invariant (c.plain_lines-r.ensures.by_index a.room c.loop-r.out) in
    plain.sound

pub next_line-r-requires-clause-refused_value : goal.next_line-r-requires-clause-refused_value
next_line-r-requires-clause-refused_value c = c.plain_lines-r.ensures.refused_value_2.0

pub next_line-r-requires-clause-line_end : goal.next_line-r-requires-clause-line_end
next_line-r-requires-clause-line_end c = c.line_end-end.ensures

pub next_line-r-requires-clause-part_value : goal.next_line-r-requires-clause-part_value
next_line-r-requires-clause-part_value c =
    let shut = sym c.is_open_end.ensures ∙ c.if-is_open_end.false in
    shut

pub next_line-r-requires-clause-room_value : goal.next_line-r-requires-clause-room_value
next_line-r-requires-clause-room_value c =
    let free = sym c.lacks_room.ensures ∙ c.if-lacks_room.false in
    free

pub loop-r-smaller : goal.loop-r-smaller
loop-r-smaller c =
    let part = c.args.part.now in
    fed_less c.loop-r.r.refused c.next_line-r.result.refused c.loop-r.r.used c.next_line-r.result.used (length part)
    c.loop-r-test.true c.loop-r.invariant.within (λ e. omega (arith, c.next_line-r.ensures.used_lt_used e, c.plain_lines-r.ensures.refused_value_2.1))
    c.next_line-r.ensures.fed.within

pub loop-r-preserved : goal.loop-r-preserved
loop-r-preserved c =
    let plain : (let a = c.args in
    Fed a.part.now a.room a.run a.out.now c.plain_lines-r.result c.loop-r.out) =
    let a = c.args in
    fed_then a.part.now a.room a.run a.out.now c.loop-r.r c.loop-r.out c.plain_lines-r.result c.loop-r.out
    c.loop-r.invariant (c.plain_lines-r.ensures.by_index a.room c.loop-r.out) in
    let a = c.args in
    fed_then a.part.now a.room a.run a.out.now c.plain_lines-r.result c.loop-r.out c.next_line-r.result c.next_line-r.new.out
    plain c.next_line-r.ensures.fed
