-- The decided slots of a list of calls: until the next one is decided, the turn stands behind the number that was granted.
-- Assumes nothing.
use mathlib.Core.Path.{◌≡◌, refl, sym, ap, subst, ◌∙◌}
use mathlib.Core.Logic.{◌≢◌}
use mathlib.Core.List.{List, [], ◌∷◌, ◌++◌}
use Prim.Native.Nat.{ℕ, zero, suc}
use native.Mathlib.Decide.{ℕ_discrete}
use lib.ListN.{length, drop}
use borrow.Author.Tests.{ne_eqb}
use Rattle.table.proofs.Tables.{miss}
use Rattle.regulator.specs.Turn.{after, granted, steps_of, verdicts}
use Rattle.regulator.specs.Grant.{decided_of}
use Rattle.regulator.specs.Refusals.{slot_refusal}
use Rattle.regulator.specs.declared.state.State.{State}
use Rattle.regulator.specs.Close.{Answer}
use Rattle.regulator.specs.Calls.{Yielding, Handing}
use Rattle.regulator.proofs.Laws.Deciding.{ended_turn, slot_decided, slot_number, shown_decided, yield_number, yield_given, hand_number, hand_given}
use Rattle.share.specs.Call.{Call, slot, yield, hand_in}
use Rattle.share.specs.Ledger.{Fed}
use Rattle.share.specs.Run.{made, run, taken, fed}
use Rattle.share.proofs.Laws.Entering.{fed_refused, fed_taken, refused_changes_nothing}
use Rattle.wait.specs.Wait.{Decision, decision_in, decisions}

-- A decided slot, of some state whose turn is t; when the next one is decided the turn is u.
pub record Turns (t u : ℕ) (d : Decision) : Type 0 where
  pub state : State
  pub offers : List ℕ
  pub room : ℕ
  pub taken : slot_refusal state offers room ≡ 0
  pub plan : d.plan ≡ state.plan
  pub verdicts : d.verdicts ≡ verdicts state offers
  pub before : state.turn ≡ t
  pub after : granted state offers ≢ 17 → u ≡ after (granted state offers)

-- slots that are decided one after the other, the first where the turn is t
abbrev pub Slots : ℕ → List Decision → Type 0
Slots t [] = Unit {0}
Slots t (d ∷ ds) = (u : ℕ) × Turns t u d × Slots u ds

-- from any of them on
pub slots_later : (k t : ℕ) (ds : List Decision) → Slots t ds → (u : ℕ) × Slots u (drop k ds)
slots_later zero t ds r = (t, r)
slots_later (suc k) t [] r = (t, tt)
slots_later (suc k) t (d ∷ ds) r = slots_later k r.0 ds r.2

-- the decided slots of a list of calls from a state on
abbrev pub slots_of : State → List Call → List Decision
slots_of s cs = decisions s (run s cs)

module _ (s : State) where
  -- what is known of the slots behind a call is known from the call on; and so it is by what the ledger is fed of the call
  abbrev Goes : Call → Type 0
  Goes c = (cs : List Call) → Slots (made s c).state.turn (slots_of (made s c).state cs) → Slots s.turn (slots_of s (c ∷ cs))

  goes_by : (c : Call) (f : Fed) → fed (made s c) ≡ f → (cs : List Call)
      → Slots s.turn (decision_in s.plan f ++ slots_of (made s c).state cs) → Slots s.turn (slots_of s (c ∷ cs))
  unfolding run decisions
  goes_by c f e cs = subst (λ (g : Fed). Slots s.turn (decision_in s.plan g ++ slots_of (made s c).state cs)) (sym e)

  -- where no slot is decided the turn remains
  stays : (c : Call) → (made s c).state.turn ≡ s.turn → (cs : List Call)
      → Slots (made s c).state.turn (slots_of (made s c).state cs) → Slots s.turn (slots_of (made s c).state cs)
  stays c e cs = subst (λ (t : ℕ). Slots t (slots_of (made s c).state cs)) e

  goes_refused : (c : Call) → (made s c).refused ≢ 0 → Goes c
  unfolding decision_in
  goes_refused c h cs r =
      goes_by c _ (fed_refused (made s c) h) cs (stays c (ap (λ (t : State). t.turn) (refused_changes_nothing s c h).state) cs r)

  goes_slot : (o b : List ℕ) → slot_refusal s o (length b) ≡ 0 → Goes (slot o b)
  unfolding made taken decision_in
  goes_slot o b e cs r =
      let n = granted s o in
      let m = made s (slot o b) in
      goes_by (slot o b) _ (fed_taken m (slot_number s o (length b) ∙ e)) cs (
        m.state.turn,
        record {
          state = s;
          offers = o;
          room = length b;
          taken = e;
          plan = refl;
          verdicts = shown_decided s o b e;
          before = refl;
          after = λ q.
              ap (λ (a : Answer). a.state.turn) (slot_decided s o (length b) e)
              ∙ ended_turn (decided_of s o n) (steps_of s o)
              ∙ miss _ _ _ (ne_eqb n 17 q);
        },
        r,
      )

  goes_taken : (c : Call) → (made s c).refused ≡ 0 → Goes c
  unfolding made taken decision_in
  goes_taken (slot o b) e cs r = goes_slot o b (sym (slot_number s o (length b)) ∙ e) cs r
  goes_taken (yield d k) e cs r =
      goes_by (yield d k) _ (fed_taken (made s (yield d k)) e) cs
      (stays (yield d k) (ap (λ (a : Yielding). a.state.turn) (yield_given s d k (sym (yield_number s d k) ∙ e))) cs r)
  goes_taken (hand_in p) e cs r =
      goes_by (hand_in p) _ (fed_taken (made s (hand_in p)) e) cs
      (stays (hand_in p) (ap (λ (a : Handing). a.state.turn) (hand_given s p (sym (hand_number s p) ∙ e))) cs r)

  goes : (c : Call) → Goes c
  goes c = go (ℕ_discrete (made s c).refused 0)
    where
      go : Dec ((made s c).refused ≡ 0) → Goes c
      go (yes e) = goes_taken c e
      go (no h) = goes_refused c h

pub slots_of_lem : (cs : List Call) (s : State) → Slots s.turn (slots_of s cs)
unfolding run decisions
slots_of_lem [] s = tt
slots_of_lem (c ∷ cs) s = goes s c cs (slots_of_lem cs (made s c).state)
