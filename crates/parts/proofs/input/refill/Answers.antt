-- What stands behind what was left are the bytes that the reader gave.
use Rattle.std.proofs.Common.{◌-◌, ◌≤◌, length, sym, subst, arith}
use Rattle.std.specs.Io.KnownBytes.{Consumes}
use Rattle.parts.proofs.Laws.Reading.{read_behind}
use Rattle.parts.proofs.input.refill.Goals as goal

pub returns-in-Ok-clause-bytes : goal.returns-in-Ok-clause-bytes
returns-in-Ok-clause-bytes g c =
    let left = c.args.filled - c.args.used in
    let text = c.copy_within.new.self in
    let within : left ≤ length text = omega arith in
    let behind = read_behind left (length text - left) c.in-Ok.n text c.read.new.buf within c.in-Ok.ensures.bound.0 in
    subst (Consumes _ _) (sym behind) c.in-Ok.ensures.bytes.0
