-- A run of the stoppable form that has finished leaves what the whole call leaves.
use mathlib.Core.Path.{◌≡◌, refl, sym, ap, ◌∙◌}
use mathlib.Core.Bool.{Bool, true, false, cond, ◌||◌, false≢true}
use Prim.Native.Nat.{ℕ, ◌≤◌}
use lib.Dec.{eqb, leb}
use borrow.Author.Tests.{leb-true}
use Rattle.world.specs.World.{World}
use Rattle.world.specs.State.{state_of, with_state}
use Rattle.world.proofs.StateLaws.{page-length}
use Rattle.turns.proofs.Turns.{enough}
use Rattle.checks.specs.Fids.{eid_nacl, fid_csr, fid_fence}
use Rattle.checks.specs.Checks.{call_answer, sync_answer}
use Rattle.checks.specs.Codes.{accepted}
use Rattle.checks.proofs.Accepted.{Passed, passed, answered, room_of}
use Rattle.checks.proofs.Truth.{both}
use Rattle.stops.specs.Sync.{asked, synced, sync_total, synced_for, finished, stoppable}
use Rattle.stops.proofs.Forms.{whole-passed, stop-passed}
use Rattle.nacl.specs.Calls.{call_left}
use Rattle.nacl.proofs.CallLaws.{sync-call}
use Rattle.claims.specs.Claims.{FinishedIsWhole}

-- a finished run was accepted and allowed all its steps
pub was-enough : (n eid fid a : ℕ) (w : World) → finished n eid fid a w ≡ true → Passed eid fid a w × (sync_total fid a w ≤ n)
unfolding finished
was-enough n eid fid a w f =
    let (t, le) = go (accepted (sync_answer eid fid a w)) (leb (sync_total fid a w) n) f in
    (passed eid fid a w t, leb-true (sync_total fid a w) n le)
  where
    go : (b c : Bool) → cond b c false ≡ true → (b ≡ true) × (c ≡ true)
    go true c t = (refl, t)
    go false c t = absurd (false≢true t)

-- all the steps make all the turns
all_made : (n eid fid a : ℕ) (w : World) → Passed eid fid a w → sync_total fid a w ≤ n → synced_for n fid a w ≡ synced fid a w
unfolding sync_total synced_for synced
all_made n eid fid a w q le = ap (with_state w) (enough w.hart.xlen n (asked w.hart.xlen fid a) (state_of w) (page-length w (room_of eid fid a w q)) le)

-- FID 2 or 3
pub two-or-three : (eid fid a : ℕ) (w : World) → Passed eid fid a w → (eqb fid fid_csr || eqb fid fid_fence) ≡ true
two-or-three eid fid a w q = (both (eqb eid eid_nacl) (eqb fid fid_csr || eqb fid fid_fence) q.three).1

-- so the call is accepted
pub finished-accepted : (n eid fid a a1 a2 : ℕ) (w : World) → finished n eid fid a w ≡ true → accepted (call_answer eid fid a a1 a2 w) ≡ true
finished-accepted n eid fid a a1 a2 w f =
    let q = (was-enough n eid fid a w f).0 in
    ap accepted ((sync-call eid fid a a1 a2 w (two-or-three eid fid a w q)).0 ∙ answered eid fid a w q)

pub finished-is-whole : FinishedIsWhole
finished-is-whole n eid fid a a1 a2 w f =
    let (q, le) = was-enough n eid fid a w f in
    stop-passed n eid fid a w q ∙ all_made n eid fid a w q le ∙ sym (whole-passed eid fid a w q)
    ∙ sym (sync-call eid fid a a1 a2 w (two-or-three eid fid a w q)).1
