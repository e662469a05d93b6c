-- What the two forms of FID 2 and 3 answer and leave, as one record of facts each.
use Rattle.std.specs.Prelude.{◌≡◌, List, ℕ}
use Rattle.world.specs.World.{World, lent}
use Rattle.checks.specs.declared.answer.Outcome.{Outcome}
use Rattle.checks.specs.Checks.{sync_answer}
use Rattle.checks.specs.Codes.{accepted, AnswerIs}
use Rattle.stops.specs.Sync.{whole, whole_steps, stoppable, steps_made, finished}
use Rattle.stops.specs.Stops.{after_stops}

-- the stoppable form with N = n: its answer, the steps that it reports, whether it finished, and what it leaves
pub record StoppedIs (n eid fid a : ℕ) (w : World) (r : Outcome) (memory table : List ℕ) : Type 0 where
  pub answer : AnswerIs r.answer (sync_answer eid fid a w)
  pub steps : r.steps ≡ steps_made n eid fid a w
  pub done : r.finished ≡ finished n eid fid a w
  pub world : lent r.hart w.base memory table ≡ stoppable n eid fid a w

-- the whole form: its answer, the steps that it made, that these were all, and what it leaves
pub record WholeIs (eid fid a : ℕ) (w : World) (r : Outcome) (memory table : List ℕ) : Type 0 where
  pub answer : AnswerIs r.answer (sync_answer eid fid a w)
  pub steps : r.steps ≡ whole_steps eid fid a w
  pub done : r.finished ≡ accepted (sync_answer eid fid a w)
  pub world : lent r.hart w.base memory table ≡ whole eid fid a w

-- the whole form after these stops: the answer and what is left are the whole form's alone, which is what demand 3 compares; the steps are
-- those that the stops left
pub record EndIs (ns : List ℕ) (eid fid a : ℕ) (w : World) (r : Outcome) (memory table : List ℕ) : Type 0 where
  pub answer : AnswerIs r.answer (sync_answer eid fid a w)
  pub steps : r.steps ≡ whole_steps eid fid a (after_stops ns eid fid a w)
  pub done : r.finished ≡ accepted (sync_answer eid fid a w)
  pub world : lent r.hart w.base memory table ≡ whole eid fid a w
