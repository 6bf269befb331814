-- A grant to a domain keeps masks and sum, and gives the regulator's state.
-- Assumes nothing.
use mathlib.Core.Path.{◌≡◌, refl, sym, ap, ap₂, ◌∙◌}
use mathlib.Core.Logic.{◌≢◌}
use mathlib.Core.Bool.{Bool, true, false, cond, not, ◌&&◌}
use mathlib.Core.List.{List}
use Prim.Native.Nat.{ℕ, ◌+◌, ◌-◌, ◌<◌, ◌≤◌}
use native.Mathlib.Omega.{arith}
use native.Mathlib.Decide.{ℕ_discrete}
use lib.Dec.{ltb, eqb}
use lib.ListN.{length}
use borrow.Author.Tests.{eq-eqb, ne_eqb, eqb-false, lt-ltb, not-true}
use Rattle.table.specs.Sums.{nth, sum, raised, lowered}
use Rattle.table.proofs.Tables.{miss}
use Rattle.table.proofs.Elements.{lowered_same, lowered_other, lowered_sum, raised_same, raised_other}
use Rattle.bits.specs.Bits.{bit}
use Rattle.regulator.specs.Turn.{after}
use Rattle.regulator.specs.Grant.{grant, onward}
use Rattle.regulator.specs.declared.state.State.{State}
use Rattle.kept.specs.declared.tables.Tables.{Tables}
use Rattle.kept.specs.Tables.{Few, Shifted}
use Rattle.kept.specs.Numbers.{Rest, state_of, Kept, Ready}
use Rattle.kept.specs.Grant.{taken_of, Lasting, Refreshed, Renewed, Fit}
use Rattle.kept.specs.declared.numbers.Numbers.{Numbers}
use Rattle.kept.specs.declared.tables.Taken.{Taken}
use Rattle.kept.specs.declared.tables.Row.{Row}
use Rattle.kept.proofs.Laws.Taking.{claim_le, back_le, stock_taken, written, taking, grant_taking}

-- A mask in which bit n may be set anew.
module _ {m m' n : ℕ} {e on : Bool} (lo : 0 < n) (is : Refreshed m n e on m') where
  best_stays : bit m' 0 ≡ bit m 0
  best_stays = is.at 0 ∙ ap (λ (b : Bool). cond (b && e) on (bit m 0)) (ne_eqb 0 n (λ z. omega arith))

  -- It was the mask of an old test and is that of a new one, where the two differ at index n - 1 at most, and there only if the bit is set.
  all_new : (old new : ℕ → Bool) → ((k : ℕ) → bit m (k + 1) ≡ old k) → on ≡ new (n - 1) → (e ≡ false → new (n - 1) ≡ old (n - 1))
      → ((k : ℕ) → k ≢ n - 1 → new k ≡ old k) → (k : ℕ) → bit m' (k + 1) ≡ new k
  all_new old new was here stays other k = is.at (k + 1) ∙ go (ℕ_discrete k (n - 1))
    where
      at : (z : Bool) → e ≡ z → k ≡ n - 1 → cond z on (bit m (k + 1)) ≡ new k
      at true q i = here ∙ ap new (sym i)
      at false q i = was k ∙ ap old i ∙ sym (stays q) ∙ ap new (sym i)

      go : Dec (k ≡ n - 1) → cond (eqb (k + 1) n && e) on (bit m (k + 1)) ≡ new k
      go (yes i) = ap (λ (b : Bool). cond (b && e) on (bit m (k + 1))) (eq-eqb (k + 1) n (omega arith)) ∙ at e refl i
      go (no i) = ap (λ (b : Bool). cond (b && e) on (bit m (k + 1))) (ne_eqb (k + 1) n (λ z. i (omega arith))) ∙ was k ∙ sym (other k i)

-- a claim that is lowered and not used up, and a count that rises and is not at its cap, are to the test what they were
lowers_same : (x c y : ℕ) → y ≡ x - c → (c ≢ 0 → y ≢ 0) → ltb 0 y ≡ ltb 0 x
lowers_same x c y e h = go (ℕ_discrete c 0)
  where
    go : Dec (c ≡ 0) → ltb 0 y ≡ ltb 0 x
    go (yes z) = let i : y ≡ x = omega arith in ap (ltb 0) i
    go (no z) = lt-ltb 0 y (omega (arith, h z)) ∙ sym (lt-ltb 0 x (omega (arith, h z)))

raises_same : (x k y cap : ℕ) → y ≡ x + k → (k ≢ 0 → x ≢ cap) → (k ≢ 0 → y ≢ cap) → not (eqb y cap) ≡ not (eqb x cap)
raises_same x k y cap e g h = go (ℕ_discrete k 0)
  where
    go : Dec (k ≡ 0) → not (eqb y cap) ≡ not (eqb x cap)
    go (yes z) = let i : y ≡ x = omega arith in ap (λ (u : ℕ). not (eqb u cap)) i
    go (no z) = ap not (ne_eqb y cap (h z) ∙ sym (ne_eqb x cap (g z)))

module _ {m m' n x c : ℕ} {e : Bool} {l' : List ℕ} (l : List ℕ) (lo : 0 < n) (hi : n ≤ 16) (long : length l ≡ 16) where
  -- the mask of a list of claims, of which one is lowered
  left_new : l' ≡ lowered l (n - 1) c → x ≡ nth l (n - 1) - c → (e ≡ false → c ≢ 0 → x ≢ 0) → Refreshed m n e (ltb 0 x) m'
      → ((k : ℕ) → bit m (k + 1) ≡ ltb 0 (nth l k)) → (k : ℕ) → bit m' (k + 1) ≡ ltb 0 (nth l' k)
  left_new is told lasts fresh was k =
      all_new lo fresh (λ i. ltb 0 (nth l i)) (λ i. ltb 0 (nth (lowered l (n - 1) c) i)) was (ap (ltb 0) (told ∙ sym here))
      (λ q. ap (ltb 0) (here ∙ sym told) ∙ lowers_same _ c _ told (lasts q))
      (λ i h. ap (ltb 0) (lowered_other l (n - 1) c i h)) k
      ∙ ap (λ (u : List ℕ). ltb 0 (nth u k)) (sym is)
    where
      here : nth (lowered l (n - 1) c) (n - 1) ≡ nth l (n - 1) - c
      here = lowered_same l (n - 1) c (omega (arith, long))

  -- the mask of a list of counts that are not at their caps, of which one is raised that was not
  below_new : (caps : List ℕ) → l' ≡ raised l (n - 1) c → x ≡ nth l (n - 1) + c → (c ≢ 0 → nth l (n - 1) ≢ nth caps (n - 1))
      → (e ≡ false → c ≢ 0 → x ≢ nth caps (n - 1)) → Refreshed m n e (not (eqb x (nth caps (n - 1)))) m'
      → ((k : ℕ) → bit m (k + 1) ≡ not (eqb (nth l k) (nth caps k))) → (k : ℕ) → bit m' (k + 1) ≡ not (eqb (nth l' k) (nth caps k))
  below_new caps is told below lasts fresh was k =
      all_new lo fresh (λ i. not (eqb (nth l i) (nth caps i))) (λ i. not (eqb (nth (raised l (n - 1) c) i) (nth caps i))) was
      (ap (λ (y : ℕ). not (eqb y (nth caps (n - 1)))) (told ∙ sym here))
      (λ q. ap (λ (y : ℕ). not (eqb y (nth caps (n - 1)))) (here ∙ sym told) ∙ raises_same _ c _ _ told below (lasts q))
      (λ i h. ap (λ (y : ℕ). not (eqb y (nth caps i))) (raised_other l (n - 1) c i h)) k
      ∙ ap (λ (u : List ℕ). not (eqb (nth u k) (nth caps k))) (sym is)
    where
      here : nth (raised l (n - 1) c) (n - 1) ≡ nth l (n - 1) + c
      here = raised_same l (n - 1) c (omega (arith, long))

module _ {reclaimcap writebackcap : List ℕ} {f : Numbers} {t : Tables} {n : ℕ} {w : Bool} {d : Taken} (lo : 0 < n) (hi : n ≤ 16)
    (kept : Kept reclaimcap writebackcap f t) (ready : Ready reclaimcap writebackcap f t) (fit : Fit f n w)
    (ds : d ≡ taken_of w (bit f.masks.has n) (bit f.masks.back n)) (small : Few d) where
  abbrev j : ℕ
  j = n - 1

  next : n ≡ j + 1
  next = omega arith

  -- the bits are the tests of the tables
  taken_is : d ≡ taken_of w (ltb 0 (nth t.claim j)) (ltb 0 (nth t.writebackclaim j))
  taken_is = ds ∙ ap₂ (taken_of w) (ap (bit f.masks.has) next ∙ kept.marked.has_at j) (ap (bit f.masks.back) next ∙ kept.marked.back_at j)

  -- what is taken is there
  pub takes_claim : d.claim ≤ nth t.claim j
  takes_claim = omega (arith, claim_le (nth t.claim j) w, ap (λ (u : Taken). u.claim) taken_is)

  pub takes_back : d.writebackclaim ≤ nth t.writebackclaim j
  takes_back = omega (arith, back_le (nth t.writebackclaim j) w, ap (λ (u : Taken). u.writebackclaim) taken_is)

  reclaims : d.stock ≢ 0 → (bit f.masks.may n ≡ true) × (0 < f.stock)
  reclaims h = let b = stock_taken w (bit f.masks.has n) (λ z. h (ap (λ (u : Taken). u.stock) ds ∙ z)) in fit.may_reclaim b.0 b.1

  pub takes_stock : d.stock ≤ f.stock
  takes_stock = go (ℕ_discrete d.stock 0)
    where
      go : Dec (d.stock ≡ 0) → d.stock ≤ f.stock
      go (yes z) = omega arith
      go (no z) = omega (arith, small.stock, (reclaims z).1)

  -- reclaimed and writebacks that rise were below their caps
  was_below : d.stock ≢ 0 → nth t.reclaimed j ≢ nth reclaimcap j
  was_below h = eqb-false _ _ (not-true _ (sym (kept.marked.may_at j) ∙ sym (ap (bit f.masks.may) next) ∙ (reclaims h).0))

  had_room : d.writeback ≢ 0 → nth t.writebacks j ≢ nth writebackcap j
  had_room h =
      let b = written w (λ z. h (ap (λ (u : Taken). u.writeback) ds ∙ z)) in
      eqb-false _ _ (not-true _ (sym (kept.marked.room_at j) ∙ sym (ap (bit f.masks.room) next) ∙ fit.has_room b))

  module _ {r : Numbers} {t' : Tables} {steps : ℕ} {e : Bool} {row : Row} (shifted : Shifted t t' j d row)
      (renewed : Renewed f n steps d row e (nth reclaimcap j) (nth writebackcap j) r)
      (lasting : e ≡ false → Lasting d row (nth reclaimcap j) (nth writebackcap j)) where
    sums : r.spoken ≡ r.decided + (sum (lowered t.claim j d.claim) + sum (lowered t.writebackclaim j d.writebackclaim))
    sums =
        omega (
          arith,
          renewed.spoken_is,
          renewed.decided_is,
          kept.spoken_is,
          lowered_sum t.claim j d.claim (omega (arith, ready.claim_long)) takes_claim,
          lowered_sum t.writebackclaim j d.writebackclaim (omega (arith, ready.writebackclaim_long)) takes_back,
        )

    pub gives_kept : Kept reclaimcap writebackcap r t'
    gives_kept =
        let k = kept.marked in
        record {
          marked = record {
            has_best = best_stays lo renewed.has_is ∙ k.has_best;
            has_at = left_new t.claim lo hi ready.claim_long shifted.claim_is shifted.claim_told (λ q. (lasting q).claim_lasts) renewed.has_is k.has_at;
            back_best = best_stays lo renewed.back_is ∙ k.back_best;
            back_at = left_new t.writebackclaim lo hi ready.writebackclaim_long shifted.writebackclaim_is shifted.writebackclaim_told (λ q. (lasting q).back_lasts) renewed.back_is k.back_at;
            may_at = below_new t.reclaimed lo hi ready.reclaimed_long reclaimcap shifted.reclaimed_is shifted.reclaimed_told was_below (λ q. (lasting q).reclaim_lasts) renewed.may_is k.may_at;
            room_best = best_stays lo renewed.room_is ∙ k.room_best;
            room_at = below_new t.writebacks lo hi ready.writebacks_long writebackcap shifted.writebacks_is shifted.writebacks_told had_room (λ q. (lasting q).room_lasts) renewed.room_is k.room_at;
          };
          spoken_is = sums ∙ ap₂ (λ (x y : List ℕ). r.decided + (sum x + sum y)) (sym shifted.claim_is) (sym shifted.writebackclaim_is);
        }

    pub gives_state : (x : Rest) (o : List ℕ) → w ≡ eqb (nth o n) 2 → state_of x r t' ≡ onward (grant (state_of x f t) o n) n steps
    gives_state x o e =
        (λ i.
        record {
          plan = x.plan;
          decided = renewed.decided_is i;
          closed = renewed.closed_is i;
          idle = renewed.idle_is i;
          best = renewed.best_is i;
          stock = renewed.stock_is i;
          turn = (renewed.turn_is ∙ sym (miss (eqb n 17) f.turn (after n) (ne_eqb n 17 (λ z. omega arith)))) i;
          claim = shifted.claim_is i;
          reserved = shifted.reserved_is i;
          reclaimed = shifted.reclaimed_is i;
          yielded = x.yielded;
          writebacks = shifted.writebacks_is i;
          steps = renewed.steps_is i;
          waiting = x.waiting;
          writebackclaim = shifted.writebackclaim_is i;
          tracked = x.tracked;
        })
        ∙ ap (λ (y : State). onward y n steps) (ap (taking (state_of x f t) j) (taken_is ∙ ap named e) ∙ sym (grant_taking (state_of x f t) o n lo hi))
      where
        named : Bool → Taken
        named b = taken_of b (ltb 0 (nth t.claim j)) (ltb 0 (nth t.writebackclaim j))
