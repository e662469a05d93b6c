-- Demand 3: a synchronization can be stopped anywhere and started again (01, "Steps and stops").
use Rattle.std.specs.Prelude.{◌≡◌, cond, List, [], ◌∷◌, ◌++◌, ℕ, eqb}
use Rattle.layout.specs.declared.xlen.Xlen.{Xlen}
use Rattle.csr.specs.Csrs.{Csr}
use Rattle.world.specs.World.{World, width}
use Rattle.world.specs.State.{state_of}
use Rattle.turns.specs.Stops.{RecordAfter, NoneLeft}
use Rattle.checks.specs.Fids.{fid_csr}
use Rattle.checks.specs.Codes.{AnswerIs}
use Rattle.checks.specs.Checks.{sync_answer}
use Rattle.stops.specs.Sync.{csrs_asked, whole, stoppable}

-- the stoppable form of the call runs once for each N; each run gets what the one before left
unfoldable pub after_stops : List ℕ → ℕ → ℕ → ℕ → World → World
after_stops [] eid fid a w = w
after_stops (n ∷ ns) eid fid a w = after_stops ns eid fid a (stoppable n eid fid a w)

-- the registers that the call serves: for FID 3 none
abbrev pub csrs_served : (xlen : Xlen) → ℕ → ℕ → List Csr
csrs_served xlen fid a = cond (eqb fid fid_csr) (csrs_asked xlen a) []

-- after a stop: the record is the start's with the writes of the cleared marks made in turn order from the start's words, then at most one
-- more, that of the next register whose mark this call has yet to clear; and no slot is named by an entry whose mark is cleared. A refused
-- call changes nothing, so no mark is cleared, whatever stands where a page would
pub record AfterStop (fid a : ℕ) (w₀ w : World) : Type 0 where
  pub record-after : RecordAfter (width w₀) (csrs_served (width w₀) fid a) (state_of w₀) (state_of w)
  pub none_left : NoneLeft (width w₀) (state_of w₀) (state_of w)

-- the claim about the list: after each stop the above, and at the end the whole form leaves and answers, with code and value, what it does run
-- alone from the start
pub record Restartable (ns : List ℕ) (eid fid a : ℕ) (w₀ : World) : Type 0 where
  pub after-each : (ms ks : List ℕ) → ns ≡ ms ++ ks → AfterStop fid a w₀ (after_stops ms eid fid a w₀)
  pub same_end : whole eid fid a (after_stops ns eid fid a w₀) ≡ whole eid fid a w₀
  pub same_answer : AnswerIs (sync_answer eid fid a (after_stops ns eid fid a w₀)) (sync_answer eid fid a w₀)
