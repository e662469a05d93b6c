-- A call under stops: every world that the runs reach is the start's with a state of the synchronization in it.
use mathlib.Core.Path.{◌≡◌, refl, sym, ap, ◌∙◌, subst}
use lib.ListN.{take}
use Prim.Native.Nat.{ℕ}
use Rattle.layout.specs.declared.xlen.Xlen.{Xlen}
use Rattle.layout.specs.Width.{bytes}
use Rattle.layout.specs.Geometry.{page_size}
use Rattle.world.specs.World.{World, offset}
use Rattle.world.specs.State.{State, state_of, with_state}
use Rattle.world.proofs.MemoryLaws.{Room}
use Rattle.world.proofs.StateLaws.{put_same, page-length, taken_out, put-over}
use Rattle.turns.specs.Turn.{turns}
use Rattle.turns.specs.Steps.{steps, stopped}
use Rattle.turns.specs.Stops.{RecordAfter, NoneLeft}
use Rattle.turns.proofs.Kept.{StateKept, state-same, run-kept}
use Rattle.turns.proofs.Preserved.{Preserved}
use Rattle.checks.proofs.Accepted.{Passed, room_of}
use Rattle.stops.specs.Sync.{asked, synced, synced_for, whole, stoppable}
use Rattle.stops.specs.Stops.{csrs_served, AfterStop}
use Rattle.stops.proofs.Forms.{whole-passed, stop-passed, still-passed}

-- what is kept is kept after any number of a synchronization's steps
stopped-kept : (xlen : Xlen) (n fid a : ℕ) (s s₀ : State) → StateKept xlen s s₀ → StateKept xlen (stopped xlen n (asked xlen fid a) s) s₀
unfolding stopped
stopped-kept xlen n fid a s s₀ k = run-kept xlen (take n (steps xlen (asked xlen fid a) s)) s s₀ k

-- one call, from a start that passes the checks
module _ (eid fid a : ℕ) (w₀ : World) (q₀ : Passed eid fid a w₀) (P : Preserved w₀.hart.xlen (csrs_served w₀.hart.xlen fid a) (asked w₀.hart.xlen fid a) (state_of w₀)) where
  abbrev rm : Room (page_size (bytes w₀.hart.xlen)) (offset w₀) w₀.memory
  rm = room_of eid fid a w₀ q₀

  -- a world that the stops reach
  pub record Reached (w : World) : Type 0 where
    pub state : State
    pub holds : P.Holds state
    pub kept : StateKept w₀.hart.xlen state (state_of w₀)
    pub is : w ≡ with_state w₀ state

  pub reached-start : Reached w₀
  reached-start = record { state = state_of w₀; holds = P.start; kept = state-same w₀.hart.xlen (state_of w₀) (page-length w₀ rm); is = sym (put_same w₀) }

  pub reached-passed : (w : World) → Reached w → Passed eid fid a w
  reached-passed w r = subst (Passed eid fid a) (sym r.is) (still-passed w₀ rm r.state r.kept eid fid a q₀)

  -- a reached world has the start's width
  same_width : (w : World) → Reached w → w.hart.xlen ≡ w₀.hart.xlen
  same_width w r = ap (λ (x : World). x.hart.xlen) r.is ∙ r.kept.hart.xlen

  -- the state that a reached world holds
  holds-state : (w : World) (r : Reached w) → state_of w ≡ r.state
  holds-state w r = ap state_of r.is ∙ taken_out w₀ rm r.state r.kept.hart.xlen r.kept.hart.shmem r.kept.page

  over : (w : World) (r : Reached w) (t : State) → with_state w t ≡ with_state w₀ t
  over w r t = ap (λ (x : World). with_state x t) r.is ∙ put-over w₀ rm r.state r.kept.hart.xlen r.kept.hart.shmem r.kept.page t

  pub reached-stop : (n : ℕ) (w : World) → Reached w → Reached (stoppable n eid fid a w)
  unfolding synced_for
  reached-stop n w r =
      record {
        state = stopped w₀.hart.xlen n (asked w₀.hart.xlen fid a) r.state;
        holds = P.stop-keeps n r.state r.holds;
        kept = stopped-kept w₀.hart.xlen n fid a r.state (state_of w₀) r.kept;
        is = stop-passed n eid fid a w (reached-passed w r)
            ∙ ap (λ (y : Xlen). with_state w (stopped y n (asked y fid a) (state_of w))) (same_width w r)
            ∙ ap (λ (t : State). with_state w (stopped w₀.hart.xlen n (asked w₀.hart.xlen fid a) t)) (holds-state w r) ∙ over w r (stopped w₀.hart.xlen n (asked w₀.hart.xlen fid a) r.state);
      }

  whole-form : (w : World) → w.hart.xlen ≡ w₀.hart.xlen → Passed eid fid a w → whole eid fid a w ≡ with_state w (turns w₀.hart.xlen (asked w₀.hart.xlen fid a) (state_of w))
  unfolding synced
  whole-form w e q = whole-passed eid fid a w q ∙ ap (λ (y : Xlen). with_state w (turns y (asked y fid a) (state_of w))) e

  -- from there the whole call ends as from the start
  pub reached-ends : (w : World) → Reached w → whole eid fid a w ≡ whole eid fid a w₀
  reached-ends w r =
      whole-form w (same_width w r) (reached-passed w r) ∙ ap (λ (t : State). with_state w (turns w₀.hart.xlen (asked w₀.hart.xlen fid a) t)) (holds-state w r)
      ∙ over w r (turns w₀.hart.xlen (asked w₀.hart.xlen fid a) r.state) ∙ ap (with_state w₀) (P.ends r.state r.holds) ∙ sym (whole-form w₀ refl q₀)

  -- and it is as 01 says of a stop
  pub reached-after : (w : World) → Reached w → AfterStop fid a w₀ w
  reached-after w r =
      let (written, none) = P.after_stop r.state r.holds in
      record {
        record-after = subst (RecordAfter w₀.hart.xlen (csrs_served w₀.hart.xlen fid a) (state_of w₀)) (sym (holds-state w r)) written;
        none_left = subst (NoneLeft w₀.hart.xlen (state_of w₀)) (sym (holds-state w r)) none;
      }
