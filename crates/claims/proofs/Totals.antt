-- Steps: the bounds, and what the stoppable form reports.
use mathlib.Core.Path.{◌≡◌, refl, sym, ap, ◌∙◌}
use mathlib.Core.Bool.{Bool, true, false, cond, ◌&&◌, ◌||◌}
use mathlib.Core.Logic.{◌⊎◌, ⊎_elim}
use Prim.Native.Nat.{ℕ, ◌+◌, ◌≤◌, min}
use native.Mathlib.Nat.{min-zero}
use native.Mathlib.Omega.{arith}
use lib.Dec.{eqb, leb}
use lib.ListN.{length, take}
use Rattle.layout.specs.declared.xlen.Xlen.{Xlen}
use Rattle.layout.specs.declared.xlen.Xlen.TheVariants.{X32, X64}
use Rattle.layout.specs.Width.{bytes}
use Rattle.layout.specs.Geometry.{entry_count}
use Rattle.turns.proofs.Totals.{most_of}
use Rattle.world.specs.World.{World}
use Rattle.world.specs.State.{state_of, with_state}
use Rattle.turns.specs.Steps.{run, steps, stopped, total}
use Rattle.checks.specs.Fids.{eid_nacl, fid_csr, fid_fence}
use Rattle.checks.specs.Checks.{call_answer, sync_answer}
use Rattle.checks.specs.Codes.{accepted}
use Rattle.checks.proofs.Accepted.{passed}
use Rattle.checks.proofs.Truth.{either, both}
use Rattle.stops.specs.Sync.{asked, sync_total, synced_for, stoppable, steps_made, finished}
use Rattle.stops.proofs.Forms.{stop-passed}
use Rattle.stops.proofs.Reports.{csrs-total, entries-total, short-table}
use Rattle.nacl.specs.Calls.{call_steps}
use Rattle.nacl.proofs.CallLaws.{answer-fence, sync-call}
use Rattle.claims.specs.Claims.{most_csr_steps, most_fence_steps, StepsCounted, StepsAreCounted}

-- the bounds, by width
csrs-most : (x : Xlen) → most_of x ≤ most_csr_steps x
csrs-most X32 = omega arith
csrs-most X64 = omega arith

fences-most : (x : Xlen) → entry_count (bytes x) + 256 ≤ most_fence_steps x
fences-most X32 = omega arith
fences-most X64 = omega arith

module _ (eid a a1 a2 : ℕ) (w : World) where
  csrs : call_steps eid fid_csr a a1 a2 w ≤ most_csr_steps w.hart.xlen
  unfolding call_steps
  csrs =
      ⊎_elim (λ t. rw t (unfold sync_total in omega (arith, csrs-total w.hart.xlen a (state_of w), csrs-most w.hart.xlen)))
      (λ r. rw r (omega arith)) (either (accepted (call_answer eid fid_csr a a1 a2 w)))

  fences : call_steps eid fid_fence a a1 a2 w ≤ most_fence_steps w.hart.xlen
  unfolding call_steps
  fences =
      ⊎_elim
      (λ t. rw t (unfold sync_total in omega (
        arith,
        entries-total w.hart.xlen a (state_of w)
            (short-table eid fid_fence a w (passed eid fid_fence a w (rw answer-fence at t))),
        fences-most w.hart.xlen,
      )))
      (λ r. rw r (omega arith))
      (either (accepted (call_answer eid fid_fence a a1 a2 w)))

-- an accepted synchronization's call has its total
total-is : (eid fid a a1 a2 : ℕ) (w : World) → accepted (sync_answer eid fid a w) ≡ true → call_steps eid fid a a1 a2 w ≡ sync_total fid a w
unfolding call_steps
total-is eid fid a a1 a2 w t =
    let k = (both (eqb eid eid_nacl) (eqb fid fid_csr || eqb fid fid_fence) (passed eid fid a w t).three).1 in
    rw ((sync-call eid fid a a1 a2 w k).0, t, k)

-- a refused one's has none
none_made : (eid fid a a1 a2 : ℕ) (w : World) → accepted (sync_answer eid fid a w) ≡ false → call_steps eid fid a a1 a2 w ≡ 0
unfolding call_steps
none_made eid fid a a1 a2 w r =
    ⊎_elim (λ k. rw ((sync-call eid fid a a1 a2 w k).0, r)) (λ n. rw n (no_steps (accepted (call_answer eid fid a a1 a2 w))))
    (either (eqb fid fid_csr || eqb fid fid_fence))
  where
    no_steps : (b : Bool) → ◌≡◌ {A = ℕ} (cond b 0 0) 0
    no_steps true = refl
    no_steps false = refl

-- these are the unbroken call's steps
total-steps : (eid fid a a1 a2 : ℕ) (w : World) → accepted (sync_answer eid fid a w) ≡ true → call_steps eid fid a a1 a2 w ≡ length (steps w.hart.xlen (asked w.hart.xlen fid a) (state_of w))
unfolding sync_total total
total-steps eid fid a a1 a2 w t = total-is eid fid a a1 a2 w t

-- of which a run makes the first
first_made : (n eid fid a : ℕ) (w : World) → accepted (sync_answer eid fid a w) ≡ true
    → stoppable n eid fid a w ≡ with_state w (run w.hart.xlen (take n (steps w.hart.xlen (asked w.hart.xlen fid a) (state_of w))) (state_of w))
unfolding synced_for stopped
first_made n eid fid a w t = stop-passed n eid fid a w (passed eid fid a w t)

-- what a run reports, where its call is judged so
module _ (n eid fid a : ℕ) (w : World) {b : Bool} (e : accepted (sync_answer eid fid a w) ≡ b) where
  made-if : steps_made n eid fid a w ≡ cond b (min n (sync_total fid a w)) 0
  unfolding steps_made
  made-if = ap (λ (x : Bool). cond x (min n (sync_total fid a w)) 0) e

  finished-if : finished n eid fid a w ≡ cond b (leb (sync_total fid a w) n) false
  unfolding finished
  finished-if = ap (λ (x : Bool). cond x (leb (sync_total fid a w) n) false) e

pub steps-counted : StepsAreCounted
steps-counted n eid fid a a1 a2 w =
    record {
      csrs = csrs eid a a1 a2 w;
      fences = fences eid a a1 a2 w;
      made =
          ⊎_elim (λ t. rw (total-is eid fid a a1 a2 w t) (made-if n eid fid a w t))
          (λ r. rw (none_made eid fid a a1 a2 w r) (made-if n eid fid a w r ∙ sym (min-zero n))) judged;
      finished =
          ⊎_elim (λ t. rw (total-is eid fid a a1 a2 w t) (finished-if n eid fid a w t ∙ ap (λ (x : Bool). x && leb (sync_total fid a w) n) (sym t)))
          (λ r. finished-if n eid fid a w r ∙ ap (λ (x : Bool). x && leb (call_steps eid fid a a1 a2 w) n) (sym r)) judged;
      total = total-steps eid fid a a1 a2 w;
      left = first_made n eid fid a w;
    }
  where
    judged : (accepted (sync_answer eid fid a w) ≡ true) ⊎ (accepted (sync_answer eid fid a w) ≡ false)
    judged = either (accepted (sync_answer eid fid a w))
