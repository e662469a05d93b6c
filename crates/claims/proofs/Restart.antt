-- Demand 3: a call after any stops.
use mathlib.Core.List.{List}
use Prim.Native.Nat.{ℕ}
use Rattle.world.specs.World.{World}
use Rattle.stops.proofs.Restart.{restartable}
use Rattle.nacl.proofs.Stopped.{call-after-stops}
use Rattle.claims.specs.Claims.{CallRestartable, StopsLeaveNoTrace}

pub call-restartable : StopsLeaveNoTrace
call-restartable ns eid fid a a1 a2 w =
    let (answer, left) = call-after-stops ns eid fid a a1 a2 w in
    record { after-each = (restartable ns eid fid a w).after-each; same_end = left; same_answer = answer }
