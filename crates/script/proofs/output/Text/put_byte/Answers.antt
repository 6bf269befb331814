-- `script::output::Text::put_byte` meets its contract.
-- Assumes nothing.
use mathlib.Core.Path.{refl, sym, ◌∙◌}
use Rattle.script.proofs.Laws.Putting.{put_one, byte_fits, byte_lost}
use Rattle.script.proofs.output.Text.put_byte.Goals as goal

pub returns-then-self : goal.returns-then-self
returns-then-self c =
    let t = c.args.self.now in
    record { same = refl; more = sym (put_one _ _ ∙ byte_fits t.out.now t.at c.args.b c.if-self.true) }

pub returns-else-self : goal.returns-else-self
returns-else-self c =
    let t = c.args.self.now in
    record { same = refl; more = sym (put_one _ _ ∙ byte_lost t.out.now t.at c.args.b c.if-self.false) }
