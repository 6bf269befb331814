-- `kept::deciding::slot` meets its contract.
-- Assumes nothing.
use mathlib.Core.Path.{◌≡◌}
use mathlib.Core.Bool.{Bool, not, ◌&&◌}
use Prim.Native.Nat.{ℕ, ◌<◌}
use native.Mathlib.Omega.{arith}
use lib.Dec.{leb, eqb}
use Rattle.bits.specs.Bits.{bit}
use Rattle.engine.specs.Inner.{wait_at, free_at, pass_at, picked_of}
use Rattle.engine.specs.declared.turn.Picked.{Picked}
use Rattle.kept.specs.declared.numbers.Numbers.{Numbers}
use Rattle.kept.proofs.Laws.Slotting.{Worked, picked_passes, picked_steps, fits, to_decided, rested_kept, served_kept, rested_gives, served_gives}
use Rattle.kept.proofs.deciding.slot.Goals as goal

-- What the four calls before the grant ensure, in one record.
worked : {period access writeback : ℕ} {f : Numbers} {wait m : ℕ} {b : Bool} {g : Picked} → wait < 131072
    → ((n : ℕ) → bit wait n ≡ wait_at (bit access n) (bit writeback n) (bit f.masks.has n) (bit f.masks.back n))
    → b ≡ (leb period f.spoken && not (eqb wait 0))
    → ((n : ℕ) → bit m n ≡ pass_at (bit wait n) (free_at (eqb n 0) (bit access n) (bit writeback n) (bit f.masks.may n) (bit f.masks.room n) (not (eqb f.stock 0))) b)
    → g ≡ picked_of m f.turn → Worked period access writeback f wait b m g
worked small waits blocks passes picks = record { wait_small = small; wait_bits = waits; block_is = blocks; pass_bits = passes; pick_is = picks }

pub rest-requires : goal.rest-requires
rest-requires c =
    let r = c.requires.ready in
    let v = worked c.waiting-wait.ensures.small c.waiting-wait.ensures.bits c.is_blocked-blocked.ensures c.passing-passing.ensures.bits c.pick-picked.ensures in
    (picked_steps c.requires.kept_2 r v, r.time, r.idle_small, r.steps_small, r.spoken_small)

pub returns-then-n-eq17 : goal.returns-then-n-eq17
returns-then-n-eq17 c =
    let p = c.requires in
    let v = worked c.waiting-wait.ensures.small c.waiting-wait.ensures.bits c.is_blocked-blocked.ensures c.passing-passing.ensures.bits c.pick-picked.ensures in
    record {
      kept = rw c.rest.ensures (rested_kept p.kept_2 _);
      decided = rw c.rest.ensures (to_decided p.kept_2 p.ready v p.access_bound.2 (rested_gives _ _ _ _ _ c.if-n-eq17.true));
    }

pub serve-requires : goal.serve-requires
serve-requires c =
    let r = c.requires.ready in
    let v = worked c.waiting-wait.ensures.small c.waiting-wait.ensures.bits c.is_blocked-blocked.ensures c.passing-passing.ensures.bits c.pick-picked.ensures in
    (picked_steps c.requires.kept_2 r v, r.time, r.best_small, r.steps_small, r.spoken_small)

pub returns-then-n-eq0 : goal.returns-then-n-eq0
returns-then-n-eq0 c =
    let p = c.requires in
    let v = worked c.waiting-wait.ensures.small c.waiting-wait.ensures.bits c.is_blocked-blocked.ensures c.passing-passing.ensures.bits c.pick-picked.ensures in
    record {
      kept = rw c.serve.ensures (served_kept p.kept_2 _);
      decided = rw c.serve.ensures (to_decided p.kept_2 p.ready v p.access_bound.2 (served_gives _ _ _ _ _ c.if-n-eq0.true));
    }

pub give-requires : goal.give-requires
give-requires c =
    let p = c.requires in
    let n = c.pick-picked.result.number in
    let above : 0 < n = omega (arith, c.if-n-eq0.false) in
    let v = worked c.waiting-wait.ensures.small c.waiting-wait.ensures.bits c.is_blocked-blocked.ensures c.passing-passing.ensures.bits c.pick-picked.ensures in
    let passes = picked_passes p.kept_2 p.ready v c.if-n-eq17.false in
    record {
      n_nonzero = (above, passes.0, picked_steps p.kept_2 p.ready v);
      kept_2 = p.kept_2;
      ready = p.ready;
      fit = fits p.kept_2 p.ready v n c.if-n-eq0.false passes.1 (p.by_index n);
    }

pub returns : goal.returns
returns c =
    let p = c.requires in
    let v = worked c.waiting-wait.ensures.small c.waiting-wait.ensures.bits c.is_blocked-blocked.ensures c.passing-passing.ensures.bits c.pick-picked.ensures in
    record { kept = c.give.ensures.kept; decided = to_decided p.kept_2 p.ready v p.access_bound.2 c.give.ensures.state }
