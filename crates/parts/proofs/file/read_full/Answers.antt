-- A turn of `read_full` reads some bytes more behind those that it has.
use Rattle.std.proofs.Common.{◌-◌, length, sym, subst, rules}
use Rattle.std.specs.Io.KnownBytes.{Consumes}
use Rattle.std.proofs.KnownBytes.{Consumes-trans}
use Rattle.parts.proofs.Laws.Reading.{front_and_read}
use Rattle.parts.proofs.file.read_full.Goals as goal

pub loop-done-preserved : goal.loop-done-preserved
loop-done-preserved g c =
    let l = c.loop-done in
    let n = c.in-Ok.n in
    let front = front_and_read l.done (length l.buffer - l.done) n l.buffer c.read.new.buf l.invariant.0 c.in-Ok.ensures.bound.0 in
    (search rules, subst (Consumes _ _) (sym front) (Consumes-trans _ _ _ _ _ l.invariant.1 c.in-Ok.ensures.bytes.0))
