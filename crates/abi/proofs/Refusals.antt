-- Demand 1 at the boundary: a refusal leaves the record's block, memory and table as they were, and tells zeros.
use mathlib.Core.Path.{◌≡◌, refl, ap, ◌∙◌}
use mathlib.Core.Bool.{Bool, true, false, true≢false}
use mathlib.Core.Logic.{◌≢◌, ⊎_elim}
use mathlib.Core.List.{List, []}
use Prim.Native.Nat.{ℕ}
use lib.IntN.{pos}
use Rattle.std.specs.Prelude.{Ok, Err}
use Rattle.text.specs.Buffer.{over}
use Rattle.hart.specs.Dropped.{Report, more_dropped}
use Rattle.world.specs.World.{World}
use Rattle.checks.specs.Codes.{Answer, code_of, accepted}
use Rattle.checks.specs.Checks.{cut, call_answer, sync_answer}
use Rattle.checks.proofs.Truth.{either}
use Rattle.stops.specs.Sync.{stoppable, steps_made, finished, stop_reports}
use Rattle.nacl.specs.Calls.{call_reports, call_counted, stop_counted}
use Rattle.nacl.specs.Lines.{line_answer, line_left}
use Rattle.nacl.specs.Traps.{cut_trap, trap_answer, trap_left, trap_reports, trap_counted}
use Rattle.nacl.proofs.CallLaws.{refusal}
use Rattle.block.specs.Block.{well_formed}
use Rattle.abi.specs.Answers.{answered}
use Rattle.abi.specs.Crossings.{Lent, world_of, lent_of, width_of, cross_answer, cross_left, cross_steps, cross_finished, cross_reports, Crosses, no_steps, unfinished, no_reports, CallAt, StopAt}
use Rattle.abi.specs.Claims.{refusal_told, KeepsWhenRefused, RefusalsAcross}
use Rattle.abi.proofs.Crossed.{lent_back}

-- a code other than 0 is a refusal's
refused-code : (r : Answer) → code_of r ≢ pos 0 → accepted r ≡ false
refused-code (Ok s) n = absurd (n refl)
refused-code (Err r) n = refl

-- and tells zeros
tells-zeros : (r : Answer) (block : List ℕ) → accepted r ≡ false → answered r 0 false 0 block ≡ refusal_told block
unfolding answered
tells-zeros (Ok s) block n = absurd (true≢false n)
tells-zeros (Err r) block n = refl

-- a refusal changes nothing of a world, makes no step, does not finish and says nothing
record Refuses (left : World → World) (steps : World → ℕ) (finished : World → Bool) (says : World → List Report) (w : World) : Type 0 where
  same : left w ≡ w
  none : steps w ≡ 0
  not_done : finished w ≡ false
  silent : says w ≡ []

-- where this is so of worlds, it is so of what is lent
module _ (answer : World → Answer) (left : World → World) (steps : World → ℕ) (finished : World → Bool) (says : World → List Report)
    (refuses : (w : World) → accepted (answer w) ≡ false → Refuses left steps finished says w) where
  module _ (l : Lent) (n : accepted (cross_answer answer l) ≡ false) where
    lent_same : cross_left left l ≡ l
    unfolding cross_answer cross_left
    lent_same =
        ⊎_elim (λ (y : well_formed l.hart ≡ true). rw y (ap lent_of (refuses (world_of l) (rw y at n)).same ∙ lent_back l y))
        (λ (y : well_formed l.hart ≡ false). rw y) (either (well_formed l.hart))

    none-made : cross_steps steps l ≡ 0
    unfolding cross_answer cross_steps
    none-made =
        ⊎_elim (λ (y : well_formed l.hart ≡ true). rw y (refuses (world_of l) (rw y at n)).none) (λ (y : well_formed l.hart ≡ false). rw y)
        (either (well_formed l.hart))

    not-all : cross_finished finished l ≡ false
    unfolding cross_answer cross_finished
    not-all =
        ⊎_elim (λ (y : well_formed l.hart ≡ true). rw y (refuses (world_of l) (rw y at n)).not_done) (λ (y : well_formed l.hart ≡ false). rw y)
        (either (well_formed l.hart))

    no-reports : cross_reports says l ≡ []
    unfolding cross_answer cross_reports
    no-reports =
        ⊎_elim (λ (y : well_formed l.hart ≡ true). rw y (refuses (world_of l) (rw y at n)).silent) (λ (y : well_formed l.hart ≡ false). rw y)
        (either (well_formed l.hart))

  kept : KeepsWhenRefused (Crosses answer left steps finished says)
  unfolding over
  kept l block out block' out' r l' c z =
      let n = refused-code (cross_answer answer l) (λ e. z (c.code ∙ e)) in
      record {
        lent = c.lent ∙ lent_same l n;
        told = c.told ∙ rw (none-made l n, not-all l n, no-reports l n) (tells-zeros (cross_answer answer l) block n);
        unsaid = c.reports ∙ rw (no-reports l n);
      }

-- so too where no steps are counted
no-steps-kept : (answer : World → Answer) (left : World → World) (says : World → List Report)
    → ((w : World) → accepted (answer w) ≡ false → (left w ≡ w) × (says w ≡ []))
    → KeepsWhenRefused (Crosses answer left no_steps unfinished says)
no-steps-kept answer left says same =
    kept answer left no_steps unfinished says (λ w n. record { same = (same w n).0; none = refl; not_done = refl; silent = (same w n).1 })

-- of any call, of the stoppable form and of a trap, each of the numbers that the width cuts, and of a line change
pub refusals-across : RefusalsAcross
unfolding stoppable steps_made finished line_left trap_left call_reports stop_reports trap_reports more_dropped
refusals-across =
    record {
      call = λ eid fid a0 a1 a2 l. let x = width_of l in call_kept (cut x eid) (cut x fid) (cut x a0) (cut x a1) (cut x a2) l;
      stop = λ n eid fid a l. let x = width_of l in stop-kept n (cut x eid) (cut x fid) (cut x a) l;
      line = λ lines l block block' r l' c z. no-steps-kept (line_answer lines) (line_left lines) no_reports (λ w n. (rw n, refl)) l block [] block' [] r l' c z;
      trap = λ t l. let k = cut_trap (width_of l) t in no-steps-kept trap_answer (trap_counted k) (trap_reports k) (λ w n. (rw n, rw n)) l;
    }
  where
    call_kept : (eid fid a0 a1 a2 : ℕ) → KeepsWhenRefused (CallAt eid fid a0 a1 a2)
    call_kept eid fid a0 a1 a2 =
        no-steps-kept (call_answer eid fid a0 a1 a2) (call_counted eid fid a0 a1 a2) (call_reports eid fid a0 a1 a2)
        (λ w n. let none : call_reports eid fid a0 a1 a2 w ≡ [] = rw n in (rw none (refusal eid fid a0 a1 a2 w n).1, none))

    stop-kept : (n eid fid a : ℕ) → KeepsWhenRefused (StopAt n eid fid a)
    stop-kept n eid fid a =
        kept (sync_answer eid fid a) (stop_counted n eid fid a) (steps_made n eid fid a) (finished n eid fid a) (stop_reports n eid fid a)
        (λ w r. record { same = rw r; none = rw r; not_done = rw r; silent = rw r })
