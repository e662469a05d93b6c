-- Demand 1: every refusal, of a call, of a run of the stoppable form, of a line change and of a trap.
use mathlib.Core.Path.{◌≡◌, refl}
use mathlib.Core.Bool.{false}
use Rattle.world.specs.World.{World}
use Rattle.checks.specs.Codes.{accepted}
use Rattle.checks.specs.Checks.{sync_answer}
use Rattle.stops.specs.Sync.{steps_made, finished}
use Rattle.stops.proofs.Forms.{stop-refused}
use Rattle.nacl.specs.Calls.{call_steps}
use Rattle.nacl.specs.Lines.{line_answer, line_left}
use Rattle.nacl.specs.Traps.{trap_answer, trap_left}
use Rattle.nacl.proofs.CallLaws.{value-0, refusal}
use Rattle.claims.specs.Events.{Event, Call, Stoppable, Lines, TrapBack, answer_to}
use Rattle.claims.specs.Claims.{Refused, RefusalsChangeNothing}

pub refusals-change-nothing : RefusalsChangeNothing
unfolding call_steps steps_made finished line_left trap_left
refusals-change-nothing (Call eid fid a0 a1 a2) w r =
    let (v, s) = refusal eid fid a0 a1 a2 w r in
    record { value = v; steps = rw r; not-finished = r; same = s }
refusals-change-nothing (Stoppable n eid fid a) w r =
    record { value = value-0 (sync_answer eid fid a w) r; steps = rw r; not-finished = rw r; same = stop-refused n eid fid a w r }
refusals-change-nothing (Lines lines) w r = record { value = value-0 (line_answer lines w) r; steps = refl; not-finished = r; same = rw r }
refusals-change-nothing (TrapBack t) w r = record { value = value-0 (trap_answer w) r; steps = refl; not-finished = r; same = rw r }
