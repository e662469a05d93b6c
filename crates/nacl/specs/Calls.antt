-- The five calls: what each leaves (01, "Codes and the order they are checked", "SRET and lines"; of set, 02, Req 03), and what its register writes say
-- of the bits that they dropped (02, Req 07).
use Rattle.std.specs.Prelude.{◌≡◌, cond, ◌||◌, List, [], ◌∷◌, ℕ, ◌-◌, eqb, length, Some, None}
use Rattle.text.specs.Buffer.{Wrote}
use Rattle.layout.specs.Width.{bytes}
use Rattle.layout.specs.Geometry.{page_size}
use Rattle.hart.specs.Record.{with_shmem, with_dropped}
use Rattle.hart.specs.Dropped.{Report, report_words, counted}
use Rattle.world.specs.Memory.{with_part}
use Rattle.world.specs.World.{World, width, lent}
use Rattle.world.specs.State.{state_of, with_state}
use Rattle.turns.specs.Blank.{blank}
use Rattle.turns.specs.Steps.{steps}
use Rattle.turns.specs.Reports.{reports}
use Rattle.checks.specs.declared.answer.Outcome.{Outcome}
use Rattle.checks.specs.Fids.{fid_probe, fid_set, fid_csr, fid_fence, fid_sret}
use Rattle.checks.specs.Codes.{accepted, AnswerIs}
use Rattle.checks.specs.Checks.{cut, is_drop, call_answer, sync_answer}
use Rattle.stops.specs.Sync.{asked, synced, sync_total, stoppable, steps_made, stop_reports, finished}
use Rattle.sret.specs.Sret.{sret, sret_reports}

-- memory with the page at address lo blanked: zeroes, and each register's reading in its word
unfoldable pub blanked : ℕ → World → List ℕ
blanked lo w = with_part (page_size (bytes (width w))) (lo - w.base) (blank (width w) w.hart) w.memory

-- set: both all-ones drop the page and write no byte of memory, else lo is stored and the page there is blanked
unfoldable pub page_set : ℕ → ℕ → World → World
page_set lo hi w =
    lent (with_shmem w.hart (cond (is_drop (width w) lo hi) None (Some lo))) w.base (cond (is_drop (width w) lo hi) w.memory (blanked lo w)) w.table

-- what an accepted call leaves: probe nothing new, set the page's address and that page blank, FID 2 and 3 the turns asked for, FID 4 SRET
unfoldable pub done : ℕ → ℕ → ℕ → World → World
done fid a0 a1 w =
    cond (eqb fid fid_probe) w (cond (eqb fid fid_set) (page_set a0 a1 w) (cond (eqb fid fid_sret) (with_state w (sret (width w) (state_of w))) (synced fid a0 w)))

-- what a call leaves, but for the count of writes that dropped bits: a refusal changes nothing
unfoldable pub call_left : ℕ → ℕ → ℕ → ℕ → ℕ → World → World
call_left eid fid a0 a1 a2 w = cond (accepted (call_answer eid fid a0 a1 a2 w)) (done fid a0 a1 w) w

-- how many steps it makes: 0 but for an accepted FID 2 or 3
unfoldable pub call_steps : ℕ → ℕ → ℕ → ℕ → ℕ → World → ℕ
call_steps eid fid a0 a1 a2 w =
    cond (accepted (call_answer eid fid a0 a1 a2 w)) (cond (eqb fid fid_csr || eqb fid fid_fence) (sync_total fid a0 w) 0) 0

-- what the register writes of an accepted call say: of FID 2 and 3 those of the turns, of SRET its own (02, Req 07)
unfoldable pub done_reports : ℕ → ℕ → World → List Report
done_reports fid a0 w =
    cond (eqb fid fid_sret) (sret_reports (width w) (state_of w))
    (cond (eqb fid fid_csr || eqb fid fid_fence) (reports (width w) (steps (width w) (asked (width w) fid a0) (state_of w)) (state_of w)) [])

-- what a call's register writes say: a refusal says nothing
unfoldable pub call_reports : ℕ → ℕ → ℕ → ℕ → ℕ → World → List Report
call_reports eid fid a0 a1 a2 w = cond (accepted (call_answer eid fid a0 a1 a2 w)) (done_reports fid a0 w) []

-- the world with another count
abbrev pub with_count : ℕ → World → World
with_count n w = lent (with_dropped w.hart n) w.base w.memory w.table

-- equal but for the count
abbrev pub ButCount : World → World → Type 0
ButCount v w = with_count 0 v ≡ with_count 0 w

-- the world with these reports counted
abbrev pub tallied : List Report → World → World
tallied rs w = lent (counted (length rs) w.hart) w.base w.memory w.table

-- what a call leaves, its reports counted
abbrev pub call_counted : ℕ → ℕ → ℕ → ℕ → ℕ → World → World
call_counted eid fid a0 a1 a2 w = tallied (call_reports eid fid a0 a1 a2 w) (call_left eid fid a0 a1 a2 w)

-- and what a run of the stoppable form does
abbrev pub stop_counted : ℕ → ℕ → ℕ → ℕ → World → World
stop_counted n eid fid a w = tallied (stop_reports n eid fid a w) (stoppable n eid fid a w)

-- the stoppable form runs once for each N and counts its reports; each run gets what the one before left
unfoldable pub after_counted : List ℕ → ℕ → ℕ → ℕ → World → World
after_counted [] eid fid a w = w
after_counted (n ∷ ns) eid fid a w = after_counted ns eid fid a (stop_counted n eid fid a w)

-- a call's answer, its steps, that these were all, the record, memory and table that it leaves, and what is said at the start of the buffer
pub record CallIs (eid fid a0 a1 a2 : ℕ) (w : World) (r : Outcome) (memory table out out' : List ℕ) : Type 0 where
  pub answer : AnswerIs r.answer (call_answer eid fid a0 a1 a2 w)
  pub steps : r.steps ≡ call_steps eid fid a0 a1 a2 w
  pub done : r.finished ≡ accepted (call_answer eid fid a0 a1 a2 w)
  pub world : lent r.hart w.base memory table ≡ call_counted eid fid a0 a1 a2 w
  pub told : Wrote out 0 (report_words (call_reports eid fid a0 a1 a2 w)) out' r.told

-- the same of a run of the stoppable form
pub record StopIs (n eid fid a : ℕ) (w : World) (r : Outcome) (memory table out out' : List ℕ) : Type 0 where
  pub answer : AnswerIs r.answer (sync_answer eid fid a w)
  pub steps : r.steps ≡ steps_made n eid fid a w
  pub done : r.finished ≡ finished n eid fid a w
  pub world : lent r.hart w.base memory table ≡ stop_counted n eid fid a w
  pub told : Wrote out 0 (report_words (stop_reports n eid fid a w)) out' r.told

-- a call of any numbers, which count as the hart's width cuts them
abbrev pub CallOn : ℕ → ℕ → ℕ → ℕ → ℕ → World → Outcome → List ℕ → List ℕ → List ℕ → List ℕ → Type 0
CallOn eid fid a0 a1 a2 w r memory table out out' =
    let x = width w in CallIs (cut x eid) (cut x fid) (cut x a0) (cut x a1) (cut x a2) w r memory table out out'

-- a run of the stoppable form; N is not cut
abbrev pub StoppedOn : ℕ → ℕ → ℕ → ℕ → World → Outcome → List ℕ → List ℕ → List ℕ → List ℕ → Type 0
StoppedOn n eid fid a w r memory table out out' = let x = width w in StopIs n (cut x eid) (cut x fid) (cut x a) w r memory table out out'
