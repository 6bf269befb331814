-- `script::text::put_domains` meets its contract: the domains so far are put.
-- Assumes nothing.
use mathlib.Core.Path.{sym, subst}
use Prim.Native.Nat.{◌+◌}
use Rattle.script.specs.Text.{domains_text}
use Rattle.script.specs.Output.{Puts}
use Rattle.script.specs.declared.output.Text.{Text}
use Rattle.script.proofs.Laws.Putting.{puts_none, puts_as, domain_put, domain_left, domains_none}
use Rattle.script.proofs.text.put_domains.Goals as goal
use Rattle.script.proofs.text.put_domains.Goals.{then-p-j, else-p-j}

pub loop-j-init : goal.loop-j-init
loop-j-init c = puts_as (sym (domains_none c.args.p c.args.c)) (puts_none _)

pub loop-j-preserved : goal.loop-j-preserved
loop-j-preserved c =
    let a = c.args in
    let j = c.loop-j.j in
    let so_far = λ (t : Text). Puts a.text.now t (domains_text a.p a.c (j + 1)) in
    elim c.if-p-j.branch [
      | then-p-j w ↦ subst so_far (sym w.text-is) (domain_put a.p a.c j w.if-p-j.true c.loop-j.invariant w.put_domain.ensures)
      | else-p-j w ↦ subst so_far (sym w.text-is) (domain_left a.p a.c j w.if-p-j.false c.loop-j.invariant)
    ]
