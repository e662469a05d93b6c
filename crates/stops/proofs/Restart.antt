-- Demand 3: whatever the call, the numbers and the start, stops change nothing of what the whole form leaves, and after each of them the
-- record and the table are as 01 says.
use Rattle.std.specs.Prelude.{Option, Some, None}
use mathlib.Core.Path.{◌≡◌, refl, sym, ap, ◌∙◌, subst}
use mathlib.Core.Bool.{Bool, true, false, cond}
use mathlib.Core.List.{List, [], ◌∷◌}
use mathlib.Core.Logic.{◌⊎◌, inl, inr, ⊎_elim}
use Prim.Native.Nat.{ℕ}
use lib.Dec.{eqb}
use borrow.Author.Tests.{ltb-true}
use Rattle.csr.specs.Csrs.{turn_order, at_turn, lookup}
use Rattle.csr.proofs.Turns.{lookup-had}
use Rattle.layout.specs.declared.xlen.Xlen.{Xlen}
use Rattle.layout.specs.declared.xlen.Xlen.TheVariants.{X32, X64}
use Rattle.layout.specs.Width.{bytes}
use Rattle.layout.specs.Geometry.{entry_count}
use Rattle.hart.specs.Bits.{all_ones}
use Rattle.world.specs.World.{World}
use Rattle.world.specs.State.{state_of}
use Rattle.world.proofs.StateLaws.{page-length}
use Rattle.turns.proofs.Truth.{either}
use Rattle.turns.proofs.Closed.{distinct}
use Rattle.turns.proofs.MarkLaws.{keep, one-in-order, all-in-order}
use Rattle.turns.proofs.Numbers.{Entries, every-below, entry-below}
use Rattle.turns.proofs.Preserved.{Preserved, csrs-preserved, entries-preserved, no-pending-cleared, no-dirty-cleared}
use Rattle.checks.specs.Checks.{good_entry, sync_answer}
use Rattle.checks.specs.Codes.{accepted}
use Rattle.checks.proofs.Codes.{answer-is}
use Rattle.checks.proofs.Accepted.{Passed, passed, answered, which, room_of}
use Rattle.stops.specs.Sync.{found_one, csrs_asked, entries_asked, asked, whole, stoppable}
use Rattle.stops.specs.Stops.{after_stops, csrs_served, AfterStop, Restartable}
use Rattle.stops.proofs.Forms.{stop-refused}
use Rattle.stops.proofs.Reached as Reached

-- the registers that FID 2 serves stand in turn order, none twice
pub asked-distinct : (xlen : Xlen) (n : ℕ) → distinct (csrs_asked xlen n) ≡ true
asked-distinct xlen n = go xlen (eqb n (all_ones xlen)) (lookup xlen n)
  where
    go : (x : Xlen) (b : Bool) (f : Option ℕ) → distinct (cond b (turn_order x) (found_one f)) ≡ true
    go X32 true f = refl
    go X64 true f = refl
    go x false (Some t) = refl
    go x false None = refl

pub asked-in-order : (xlen : Xlen) (n : ℕ) → keep (csrs_asked xlen n) (turn_order xlen) ≡ csrs_asked xlen n
asked-in-order xlen n = go (eqb n (all_ones xlen)) (lookup xlen n) refl
  where
    none : (x : Xlen) → keep [] (turn_order x) ≡ []
    none X32 = refl
    none X64 = refl

    go : (b : Bool) (f : Option ℕ) → lookup xlen n ≡ f → keep (cond b (turn_order xlen) (found_one f)) (turn_order xlen) ≡ cond b (turn_order xlen) (found_one f)
    go true f e = all-in-order xlen
    go false (Some t) e = one-in-order xlen (at_turn t) (lookup-had xlen n t e)
    go false None e = none xlen

-- what FID 3 serves are entries
pub asked-entries : (xlen : Xlen) (a : ℕ) → good_entry xlen a ≡ true → Entries xlen (entries_asked xlen a)
asked-entries xlen a t = go (either (eqb a (all_ones xlen)))
  where
    go : (eqb a (all_ones xlen) ≡ true) ⊎ (eqb a (all_ones xlen) ≡ false) → Entries xlen (entries_asked xlen a)
    go (inl q) = rw q (every-below xlen)
    go (inr n) = rw n (entry-below xlen a (ltb-true a (entry_count (bytes xlen)) (rw n at t)))

-- stops of a call that passes its checks preserve an invariant
preserved : (eid fid a : ℕ) (w : World) → Passed eid fid a w → Preserved w.hart.xlen (csrs_served w.hart.xlen fid a) (asked w.hart.xlen fid a) (state_of w)
preserved eid fid a w q =
    let g = page-length w (room_of eid fid a w q) in
    ⊎_elim (λ two. rw two (csrs-preserved w.hart.xlen (csrs_asked w.hart.xlen a) (state_of w) g (asked-distinct w.hart.xlen a) (asked-in-order w.hart.xlen a)))
    (λ three. rw three.0 (entries-preserved w.hart.xlen (entries_asked w.hart.xlen a) (state_of w) g (asked-entries w.hart.xlen a (rw three.0 at q.five)))) (which eid fid q.three)

-- what each stop keeps holds after all of them
module _ (R : World → Type 0) (eid fid a : ℕ) (step : (n : ℕ) (w : World) → R w → R (stoppable n eid fid a w)) where
  stops-keep : (ns : List ℕ) (w : World) → R w → R (after_stops ns eid fid a w)
  unfolding after_stops
  stops-keep [] w r = r
  stops-keep (n ∷ ns) w r = stops-keep ns (stoppable n eid fid a w) (step n w r)

-- the claim follows from a property of worlds that the start has, that stops keep, and that says what is claimed
gather : (R : World → Type 0) (ns : List ℕ) (eid fid a : ℕ) (w₀ : World) → R w₀ → ((n : ℕ) (w : World) → R w → R (stoppable n eid fid a w))
    → ((w : World) → R w → AfterStop fid a w₀ w) → ((w : World) → R w → whole eid fid a w ≡ whole eid fid a w₀)
    → ((w : World) → R w → sync_answer eid fid a w ≡ sync_answer eid fid a w₀) → Restartable ns eid fid a w₀
gather R ns eid fid a w₀ r step after ends same =
    record {
      after-each = λ ms ks e. after (after_stops ms eid fid a w₀) (stops-keep R eid fid a step ms w₀ r);
      same_end = ends (after_stops ns eid fid a w₀) (stops-keep R eid fid a step ns w₀ r);
      same_answer = answer-is (same (after_stops ns eid fid a w₀) (stops-keep R eid fid a step ns w₀ r));
    }

-- a world is as after a stop of itself
after_none : (fid a : ℕ) (w : World) → AfterStop fid a w w
after_none fid a w =
    record {
      record-after = no-dirty-cleared w.hart.xlen (csrs_served w.hart.xlen fid a) (state_of w) (state_of w) refl (λ c. refl);
      none_left = no-pending-cleared w.hart.xlen (state_of w) (state_of w) (λ e b. refl);
    }

-- a refused call
refused : (ns : List ℕ) (eid fid a : ℕ) (w₀ : World) → accepted (sync_answer eid fid a w₀) ≡ false → Restartable ns eid fid a w₀
refused ns eid fid a w₀ n =
    gather (λ w. w ≡ w₀) ns eid fid a w₀ refl (λ k w e. ap (stoppable k eid fid a) e ∙ stop-refused k eid fid a w₀ n)
    (λ w e. subst (AfterStop fid a w₀) (sym e) (after_none fid a w₀)) (λ w e. ap (whole eid fid a) e) (λ w e. ap (sync_answer eid fid a) e)

-- an accepted call
accepted-call : (ns : List ℕ) (eid fid a : ℕ) (w₀ : World) → Passed eid fid a w₀ → Restartable ns eid fid a w₀
accepted-call ns eid fid a w₀ q =
    let P = preserved eid fid a w₀ q in
    gather (Reached.Reached eid fid a w₀ q P) ns eid fid a w₀ (Reached.reached-start eid fid a w₀ q P) (Reached.reached-stop eid fid a w₀ q P)
    (Reached.reached-after eid fid a w₀ q P) (Reached.reached-ends eid fid a w₀ q P)
    (λ w r. answered eid fid a w (Reached.reached-passed eid fid a w₀ q P w r) ∙ sym (answered eid fid a w₀ q))

-- demand 3
pub restartable : (ns : List ℕ) (eid fid a : ℕ) (w₀ : World) → Restartable ns eid fid a w₀
restartable ns eid fid a w₀ =
    ⊎_elim (λ t. accepted-call ns eid fid a w₀ (passed eid fid a w₀ t)) (refused ns eid fid a w₀) (either (accepted (sync_answer eid fid a w₀)))
