-- `kept::grant::give` meets its contract.
-- Assumes nothing.
use native.Mathlib.Omega.{arith}
use Prim.Native.Nat.{◌-◌}
use Rattle.kept.proofs.Laws.Giving.{takes_claim, takes_back, takes_stock, gives_kept, gives_state}
use Rattle.kept.proofs.grant.give.Goals as goal

pub shift-row-requires : goal.shift-row-requires
shift-row-requires c =
    let p = c.requires in
    let r = c.requires.ready in
    let i = c.args.picked.number - 1 in
    let taken = c.taken_of-taken.ensures in
    record {
      i_bound = (omega arith, taken.few);
      claim = takes_claim p.n_nonzero.0 p.n_nonzero.1 p.kept_2 r p.fit taken.is taken.few;
      reserved = r.reserved_small i;
      reclaimed = r.reclaimed_small i;
      writebacks = r.writebacks_small i;
      writebackclaim = takes_back p.n_nonzero.0 p.n_nonzero.1 p.kept_2 r p.fit taken.is taken.few;
    }

pub has_ended-ended-requires : goal.has_ended-ended-requires
has_ended-ended-requires c = c.taken_of-taken.ensures.few

pub renew-requires : goal.renew-requires
renew-requires c =
    let p = c.requires in
    let r = c.requires.ready in
    let taken = c.taken_of-taken.ensures in
    record {
      n_bound = (p.n_nonzero.1, p.n_nonzero.2);
      few = (taken.few, takes_stock p.n_nonzero.0 p.n_nonzero.1 p.kept_2 r p.fit taken.is taken.few);
      decided_bound = (r.time, r.steps_small, r.spoken_small);
    }

pub returns : goal.returns
returns c =
    let p = c.requires in
    let taken = c.taken_of-taken.ensures in
    let e = c.has_ended-ended.ensures in
    record {
      kept = gives_kept p.n_nonzero.0 p.n_nonzero.1 p.kept_2 p.ready p.fit taken.is taken.few c.shift-row.ensures c.renew.ensures e;
      state = record {
        state = gives_state p.n_nonzero.0 p.n_nonzero.1 p.kept_2 p.ready p.fit taken.is taken.few c.shift-row.ensures c.renew.ensures e;
      };
    }
