-- `engine::calls::ask` meets its contract.
-- Assumes nothing.
use mathlib.Core.Path.{◌≡◌, ap, ap₂, ◌∙◌}
use mathlib.Core.Bool.{not, ◌&&◌}
use Prim.Native.Nat.{ℕ, ◌+◌, ◌≤◌}
use native.Mathlib.Omega.{arith}
use lib.Dec.{eqb, leb}
use mathlib.Core.List.{List}
use borrow.Author.Rules.{rules}
use Rattle.regulator.specs.Refusals.{slot_refusal}
use Rattle.regulator.specs.Verdict.{claims, blocked}
use Rattle.regulator.specs.declared.state.State.{State}
use Rattle.regulator.proofs.Laws.Adding.{Adds, adds}
use Rattle.regulator.proofs.Laws.Refusing.{SlotTaken, slot_taken}
use Rattle.engine.specs.Inner.{Given}
use Rattle.engine.specs.declared.turn.Picked.{Picked}
use Rattle.engine.proofs.Laws.Rulings.{given_of, below_caps, blocked_is, passing_is, picked_is}
use Rattle.engine.proofs.calls.ask.Goals as goal

-- the turn of a state in which a slot is not refused
turn_small : (s : State) (offers : List ℕ) → slot_refusal s offers 17 ≡ 0 → s.turn ≤ 16
turn_small s offers e = (adds s (slot_taken s offers 17 e).adds).balanced.turn

pub offering-access-requires : goal.offering-access-requires
offering-access-requires c =
    record { offers_len = (slot_taken c.args.s c.args.offers.now 17 (search rules)).offered.offers_long; kind_nonzero = omega arith }

pub offering-writeback-requires : goal.offering-writeback-requires
offering-writeback-requires c =
    record { offers_len = (slot_taken c.args.s c.args.offers.now 17 (search rules)).offered.offers_long; kind_nonzero = omega arith }

pub overflow_cast-s : goal.overflow_cast-s
overflow_cast-s c = record { fits = omega (arith, turn_small c.args.s c.args.offers.now (search rules)) }

pub pick-picked-requires : goal.pick-picked-requires
pick-picked-requires c =
    record { turn_bound = turn_small c.args.s c.args.offers.now (search rules); passing_bound = c.passing-pass.ensures.small }

pub returns : goal.returns
returns c =
    let s = c.args.s in
    let o = c.args.offers.now in
    let e : slot_refusal s o 17 ≡ 0 = search rules in
    let taken : SlotTaken s o 17 = slot_taken s o 17 e in
    let sound : Adds s = adds s taken.adds in
    let m = c.masks_of-m.ensures in
    let wait = c.waiting-wait.ensures in
    let given : Given o c.offering-access.result c.offering-writeback.result = given_of s o taken _ _ c.offering-access.ensures.bits c.offering-writeback.ensures.bits in
    let below = below_caps s sound.balanced (search rules) in
    let both : c.total.result + c.total-2.result ≡ claims s = ap₂ ◌+◌ c.total.ensures.is c.total-2.ensures.is in
    let block : c.is_blocked-blocked.result ≡ blocked s o =
    c.is_blocked-blocked.ensures
    ∙ rw (c.from.ensures, c.from-2.ensures)
    (ap (λ (k : ℕ). leb s.plan.period (s.decided + k) && not (eqb c.waiting-wait.result 0)) both
    ∙ blocked_is s o _ _ _ _ _ _ given m below _ wait.bits wait.small (omega (arith, sound.below))) in
    let bits = passing_is s o _ _ _ _ _ _ given m below _ wait.bits c.passing-pass.result _ block c.passing-pass.ensures.bits in
    let p = picked_is s o c.passing-pass.result (λ n h. bits n) (turn_small s o e) in
    record {
      blocked = block;
      number = ap (λ (r : Picked). r.number) c.pick-picked.ensures ∙ p.0;
      steps = ap (λ (r : Picked). r.steps) c.pick-picked.ensures ∙ p.1;
    }
