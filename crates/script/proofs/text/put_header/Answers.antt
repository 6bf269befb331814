-- `script::text::put_header` meets its contract.
-- Assumes nothing.
use Rattle.script.specs.Text.{header}
use Rattle.script.proofs.text.put_header.Goals as goal

pub returns : goal.returns
unfolding header
returns c =
    c.put_bytes.ensures
