-- The second engine answers as the first does: `AnswersAlike`.
-- Assumes nothing.
use mathlib.Core.Path.{◌≡◌, refl, sym, ap, ap₂, ◌∙◌}
use mathlib.Core.Bool.{Bool, true, false, cond}
use mathlib.Core.List.{List}
use Prim.Native.Nat.{ℕ, zero, suc, ◌+◌, ◌*◌, ◌^◌, ◌<◌}
use native.Mathlib.Omega.{arith}
use native.Mathlib.Nat.{pow-suc}
use native.Mathlib.Decide.{ℕ_discrete}
use lib.ListN.{length, set}
use borrow.Author.Tests.{eq-eqb, ne_eqb}
use Rattle.table.proofs.Tables.{miss, hit}
use Rattle.bits.specs.Bits.{bit}
use Rattle.bits.proofs.Laws.{join_low, join_high}
use Rattle.regulator.specs.Verdict.{passes}
use Rattle.regulator.specs.Turn.{granted, steps_of, rulings, verdicts}
use Rattle.regulator.specs.Grant.{grant, onward}
use Rattle.regulator.specs.Close.{ended}
use Rattle.regulator.specs.Refusals.{slot_refusal}
use Rattle.regulator.specs.Calls.{slot_of, verdicts_in, one_slot}
use Rattle.regulator.specs.declared.state.State.{State}
use Rattle.regulator.proofs.Laws.Adding.{adds}
use Rattle.regulator.proofs.Laws.Refusing.{slot_taken}
use Rattle.regulator.proofs.Laws.Deciding.{slot_refused, slot_decided, shown_refused, shown_decided}
use Rattle.engine.specs.Masks.{mask_below, passing_mask}
use Rattle.engine.specs.Engine.{granted_by_mask, steps_by_mask, slot_by_mask, verdicts_by_mask, AnswersAlike}
use Rattle.engine.proofs.Laws.Rulings.{picked_is}

-- ---- the bits of a mask of a test

module _ (test : ℕ → Bool) where
  one : Bool → ℕ
  one b = cond b 1 0

  mask_more : (n : ℕ) → mask_below test (suc n) ≡ mask_below test n + one (test n) * 2 ^ n
  unfolding mask_below one
  mask_more n = go (test n)
    where
      go : (b : Bool) → mask_below test n + cond b (2 ^ n) 0 ≡ mask_below test n + cond b 1 0 * 2 ^ n
      go true = omega arith
      go false = omega arith

  mask_small : (n : ℕ) → mask_below test n < 2 ^ n
  unfolding mask_below
  mask_small zero = omega arith
  mask_small (suc n) = go (test n) (mask_small n)
    where
      go : (b : Bool) → mask_below test n < 2 ^ n → mask_below test n + cond b (2 ^ n) 0 < 2 ^ suc n
      go true h = omega (arith, pow-suc 2 n)
      go false h = omega (arith, pow-suc 2 n)

  top : (b : Bool) → bit (one b) 0 ≡ b
  unfolding bit one
  top true = refl
  top false = refl

  -- bit n of a mask is the test of n
  mask_bit : (last n : ℕ) → n < last → bit (mask_below test last) n ≡ test n
  mask_bit zero n h = absurd (omega arith)
  mask_bit (suc last) n h = ap (λ (m : ℕ). bit m n) (mask_more last) ∙ go (ℕ_discrete n last) (mask_bit last n)
    where
      go : Dec (n ≡ last) → (n < last → bit (mask_below test last) n ≡ test n) → bit (mask_below test last + one (test last) * 2 ^ last) n ≡ test n
      go (yes q) ih =
          let z : n ≡ last + 0 = omega arith in
          ap (bit (mask_below test last + one (test last) * 2 ^ last)) z
          ∙ join_high (mask_below test last) (one (test last)) last 0 (mask_small last) ∙ top (test last) ∙ ap test (sym q)
      go (no q) ih = join_low (mask_below test last) (one (test last)) last n (mask_small last) (omega arith) ∙ ih (omega arith)

-- ---- the two engines

module _ (s : State) (o : List ℕ) (room : ℕ) (e : slot_refusal s o room ≡ 0) where
  both : (granted_by_mask s o ≡ granted s o) × (steps_by_mask s o ≡ steps_of s o)
  both =
      picked_is s o (passing_mask s o) (λ n h. mask_bit (passes s o) 17 n (omega arith))
      (adds s (slot_taken s o room e).adds).balanced.turn

pub answers_alike : AnswersAlike
unfolding slot_by_mask verdicts_by_mask one_slot verdicts
answers_alike s o buffer = go (ℕ_discrete (slot_refusal s o (length buffer)) 0)
  where
    go : Dec (slot_refusal s o (length buffer) ≡ 0)
        → (slot_by_mask s o (length buffer) ≡ slot_of s o (length buffer)) × (verdicts_by_mask s o buffer ≡ verdicts_in s o buffer)
    go (yes e) =
        let b = both s o (length buffer) e in (
          hit _ _ _ (eq-eqb (slot_refusal s o (length buffer)) 0 e)
              ∙ ap₂ (λ (n k : ℕ). ended (onward (grant s o n) n k) k) b.0 b.1 ∙ sym (slot_decided s o (length buffer) e),
          hit _ _ _ (eq-eqb (slot_refusal s o (length buffer)) 0 e)
              ∙ ap (λ (n : ℕ). set (rulings s o) n 1) b.0 ∙ sym (shown_decided s o buffer e),
        )
    go (no e) = (
      miss _ _ _ (ne_eqb (slot_refusal s o (length buffer)) 0 e) ∙ sym (slot_refused s o (length buffer) e),
      miss _ _ _ (ne_eqb (slot_refusal s o (length buffer)) 0 e) ∙ sym (shown_refused s o buffer e),
    )
