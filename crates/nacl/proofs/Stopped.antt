-- Demand 3 of the dispatcher: after any stops of a call, whatever its FID, the call answers and leaves what it does from the start.
use mathlib.Core.Path.{◌≡◌, sym, ap, ◌∙◌}
use mathlib.Core.Bool.{true, ◌||◌}
use mathlib.Core.List.{List}
use mathlib.Core.Logic.{⊎_elim}
use Prim.Native.Nat.{ℕ}
use lib.Dec.{eqb}
use Rattle.world.specs.World.{World}
use Rattle.checks.specs.Fids.{eid_nacl, fid_csr, fid_fence}
use Rattle.checks.specs.Codes.{accepted}
use Rattle.checks.specs.Checks.{call_answer, sync_answer}
use Rattle.checks.proofs.Accepted.{passed}
use Rattle.checks.proofs.Truth.{both, either}
use Rattle.stops.specs.Stops.{after_stops}
use Rattle.stops.proofs.After.{refused-stops}
use Rattle.stops.proofs.Restart.{restartable}
use Rattle.nacl.specs.Calls.{call_left}
use Rattle.nacl.proofs.CallLaws.{sync-call}

module _ (ns : List ℕ) (eid fid a a1 a2 : ℕ) (w : World) where
  -- the same answer, and the same record, memory and table
  abbrev Same : Type 0
  Same =
      (call_answer eid fid a a1 a2 (after_stops ns eid fid a w) ≡ call_answer eid fid a a1 a2 w)
      × (call_left eid fid a a1 a2 (after_stops ns eid fid a w) ≡ call_left eid fid a a1 a2 w)

  -- stops that are accepted are of FID 2 or 3
  stopped : accepted (sync_answer eid fid a w) ≡ true → Same
  stopped t =
      let f = (both (eqb eid eid_nacl) (eqb fid fid_csr || eqb fid fid_fence) (passed eid fid a w t).three).1 in
      let r = restartable ns eid fid a w in
      let (p₀, l₀) = sync-call eid fid a a1 a2 w f in
      let (p, l) = sync-call eid fid a a1 a2 (after_stops ns eid fid a w) f in
      (p ∙ r.same_answer.same ∙ sym p₀, l ∙ r.same_end ∙ sym l₀)

  pub call-after-stops : Same
  call-after-stops =
      ⊎_elim stopped
      (λ r. let e = refused-stops eid fid a ns w r in (ap (call_answer eid fid a a1 a2) e, ap (call_left eid fid a a1 a2) e))
      (either (accepted (sync_answer eid fid a w)))
