-- `script::feeding::replay` meets its contract.
-- Assumes nothing.
use mathlib.Core.Path.{◌≡◌, sym, ap, ◌∙◌}
use Prim.Native.Nat.{ℕ}
use native.Mathlib.Omega.{arith}
use lib.ListN.{drop}
use Rattle.script.specs.Replay.{replay_text}
use Rattle.script.specs.Output.{Output, output, put}
use Rattle.script.specs.Feeding.{rest_text}
use Rattle.script.proofs.Laws.Putting.{put_next, put_holding}
use Rattle.script.proofs.feeding.replay.Goals as goal

pub finish-requires-clause-sound : goal.finish-requires-clause-sound
finish-requires-clause-sound c = c.start-r.ensures.sound

pub finish-requires-clause-used_in_bounds : goal.finish-requires-clause-used_in_bounds
finish-requires-clause-used_in_bounds c = omega (arith, c.start-r.ensures.none)

pub returns : goal.returns
returns c =
    let a = c.args in
    let q = c.start-r.result in
    let g = c.start-r.ensures in
    let script = c.args.script.now in
    let e : output c.finish.new.out c.finish.result ≡ put (output a.out.now 0) (replay_text a.plan.now script) =
    c.finish.ensures
    ∙ ap (λ (n : ℕ). put (output c.start-r.new.out q.at) (rest_text q (drop n script))) g.none
    ∙ put_next (output a.out.now 0) (output c.start-r.new.out q.at) g.text (rest_text q script) g.shown
    ∙ ap (put (output a.out.now 0)) (sym (g.rest script)) in
    let h = e ∙ put_holding (replay_text a.plan.now script) a.out.now in
    record { count = ap (λ (o : Output). o.count) h; text = ap (λ (o : Output). o.buffer) h }
