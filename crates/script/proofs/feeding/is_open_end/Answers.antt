-- `script::feeding::is_open_end` meets its contract.
-- Assumes nothing.
use mathlib.Core.Path.{sym, ap, ◌∙◌}
use mathlib.Core.Bool.{Bool, ◌&&◌}
use Prim.Native.Nat.{◌-◌}
use lib.Dec.{ltb}
use borrow.Author.Tests.{eq-eqb, ne_eqb}
use Rattle.script.proofs.feeding.is_open_end.Goals as goal

pub returns-then-end-len : goal.returns-then-end-len
returns-then-end-len c =
    sym (ap (λ (t : Bool). t && ltb (c.args.end - c.args.used) 20) (eq-eqb c.args.end c.args.len c.if-end-len.true))

pub returns-else-end-len : goal.returns-else-end-len
returns-else-end-len c =
    let e = ne_eqb c.args.end c.args.len c.if-end-len.false in
    e ∙ sym (ap (λ (t : Bool). t && ltb (c.args.end - c.args.used) 20) e)
