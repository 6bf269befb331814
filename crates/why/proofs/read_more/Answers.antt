-- `why::read_more` meets its contract.
-- Assumes nothing.
use mathlib.Core.Path.{sym, ap, subst}
use native.Mathlib.Omega.{arith}
use lib.ListN.{length}
use Rattle.question.specs.Seeking.{Sound}
use Rattle.question.specs.declared.seeking.Search.{Search}
use Rattle.why.specs.Buffers.{Within}
use borrow.Author.Rules.{rules}
use Rattle.why.proofs.read_more.Goals as goal

pub returns-clause-within : goal.returns-clause-within
returns-clause-within g c =
    let given : Within c.args.q c.args.filled (length c.args.text.now) = search rules in
    let p = c.refill-part.ensures.refilled in
    let e = c.from_start-search.ensures in
    let s = given.sound in
    let sound = subst Sound (sym e) (record { adds = s.adds; some = s.some; found = s.found }) in
    record { sound = sound; used = omega (arith, ap (λ (q : Search). q.used) e); part = p.within }

pub returns-clause-kept : goal.returns-clause-kept
returns-clause-kept g c =
    let p = c.refill-part.ensures.refilled in
    p.kept
