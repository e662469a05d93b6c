-- Nothing but the count goes by the count: answers, reports and what a call, a run of the stoppable form, a line change and a trap leave are the
-- same whatever it is. So demand 3 holds of runs that count, but for the count.
use mathlib.Core.Path.{◌≡◌, refl, ap, ap₂, ◌∙◌}
use mathlib.Core.Bool.{Bool, true, false, cond, ◌||◌}
use mathlib.Core.List.{List, [], ◌∷◌, ◌++◌}
use Prim.Native.Nat.{ℕ, ◌-◌}
use lib.Dec.{eqb}
use lib.ListN.{length, take, replicate}
use Rattle.layout.specs.declared.xlen.Xlen.{Xlen}
use Rattle.layout.specs.Width.{bytes}
use Rattle.layout.specs.Geometry.{page_size}
use Rattle.csr.specs.Csrs.{Csr, Hstatus, Hgeip, Hip, Vsip, turn_order}
use Rattle.hart.specs.declared.record.Hart.{Hart}
use Rattle.hart.specs.declared.trap.Trap.{Trap}
use Rattle.hart.specs.Dropped.{Report, report_of}
use Rattle.hart.specs.Record.{returned, with_dropped}
use Rattle.hart.specs.Trap.{trapped}
use Rattle.world.specs.Memory.{with_part}
use Rattle.world.specs.World.{World}
use Rattle.world.specs.State.{State, state_from, state_of, with_state}
use Rattle.turns.specs.Marks.{Mark}
use Rattle.turns.specs.Turn.{store_reading, turns}
use Rattle.turns.specs.Steps.{Step, run, steps, total, stopped}
use Rattle.turns.specs.Reports.{reports}
use Rattle.turns.specs.Clean.{unclean, trap_words, store_clean_words}
use Rattle.turns.specs.Blank.{put_all, blank}
use Rattle.turns.proofs.Blind.{state_with, turns-blind, run-blind, steps-blind, reports-blind}
use Rattle.checks.specs.Checks.{check1, check2, check7, answer_by, call_answer, sync_answer}
use Rattle.checks.specs.Codes.{accepted}
use Rattle.stops.specs.Sync.{asked, synced, sync_total, synced_for, whole, stoppable, steps_made, stop_reports, finished}
use Rattle.stops.specs.Stops.{after_stops}
use Rattle.sret.specs.Sret.{csrs_offered, entries_offered, offered_done, context_loaded, swaps, swapped, autoswapped, swap_reports, resumed, sret, sret_reports}
use Rattle.trap.specs.Trap.{trap_stored}
use Rattle.checks.specs.Fids.{fid_probe, fid_set, fid_csr, fid_fence, fid_sret}
use Rattle.nacl.specs.Calls.{blanked, page_set, done, call_left, call_steps, done_reports, call_reports, with_count, stop_counted, after_counted}
use Rattle.nacl.specs.Lines.{lines_stored, line_answer, line_done, line_left}
use Rattle.nacl.specs.Traps.{trap_taken, trap_answer, trap_done, trap_left, trap_reports}

-- ---- answers

answer-blind : (three : Bool) (fid a0 a1 a2 n : ℕ) (w : World) → answer_by three fid a0 a1 a2 (with_count n w) ≡ answer_by three fid a0 a1 a2 w
unfolding answer_by check1 check2 check7
answer-blind three fid a0 a1 a2 n w = refl

pub call-answer-blind : (eid fid a0 a1 a2 n : ℕ) (w : World) → call_answer eid fid a0 a1 a2 (with_count n w) ≡ call_answer eid fid a0 a1 a2 w
unfolding call_answer
call-answer-blind eid fid a0 a1 a2 n w = answer-blind _ fid a0 a1 a2 n w

pub sync-answer-blind : (eid fid a n : ℕ) (w : World) → sync_answer eid fid a (with_count n w) ≡ sync_answer eid fid a w
unfolding sync_answer
sync-answer-blind eid fid a n w = answer-blind _ fid a 0 0 n w

-- ---- synchronizations

-- either of two worlds
either-blind : (b : Bool) (n : ℕ) (v w : World) {v' w' : World} → v' ≡ with_count n v → w' ≡ with_count n w → cond b v' w' ≡ with_count n (cond b v w)
either-blind true n v w p q = p
either-blind false n v w p q = q

pub stoppable-blind : (k eid fid a n : ℕ) (w : World) → stoppable k eid fid a (with_count n w) ≡ with_count n (stoppable k eid fid a w)
unfolding stoppable synced_for stopped
stoppable-blind k eid fid a n w = rw (sync-answer-blind eid fid a n w) (either-blind (accepted (sync_answer eid fid a w)) n (with_state w (run x (take k (steps x (asked x fid a) (state_of w))) (state_of w))) w made refl)
  where
    x : Xlen
    x = w.hart.xlen

    made : with_state (with_count n w) (run x (take k (steps x (asked x fid a) (state_with n (state_of w)))) (state_with n (state_of w)))
        ≡ with_count n (with_state w (run x (take k (steps x (asked x fid a) (state_of w))) (state_of w)))
    made =
        ap (λ (ys : List Step). with_state (with_count n w) (run x (take k ys) (state_with n (state_of w)))) (steps-blind x n (asked x fid a) (state_of w))
        ∙ ap (with_state (with_count n w)) (run-blind x n (take k (steps x (asked x fid a) (state_of w))) (state_of w))

pub whole-blind : (eid fid a n : ℕ) (w : World) → whole eid fid a (with_count n w) ≡ with_count n (whole eid fid a w)
unfolding whole synced
whole-blind eid fid a n w =
    rw (sync-answer-blind eid fid a n w)
    (either-blind (accepted (sync_answer eid fid a w)) n (with_state w (turns w.hart.xlen (asked w.hart.xlen fid a) (state_of w))) w (ap (with_state (with_count n w)) (turns-blind w.hart.xlen n (asked w.hart.xlen fid a) (state_of w))) refl)

pub stop-reports-blind : (k eid fid a n : ℕ) (w : World) → stop_reports k eid fid a (with_count n w) ≡ stop_reports k eid fid a w
unfolding stop_reports
stop-reports-blind k eid fid a n w =
    rw (sync-answer-blind eid fid a n w)
    (ap (λ (rs : List Report). cond (accepted (sync_answer eid fid a w)) rs [])
    (ap (λ (ys : List Step). reports x (take k ys) (state_with n (state_of w))) (steps-blind x n (asked x fid a) (state_of w))
    ∙ reports-blind x n (take k (steps x (asked x fid a) (state_of w))) (state_of w)))
  where
    x : Xlen
    x = w.hart.xlen

-- and how many steps there are
module _ (fid a n : ℕ) (w : World) where
  total-blind : sync_total fid a (with_count n w) ≡ sync_total fid a w
  unfolding sync_total total
  total-blind = ap length (steps-blind w.hart.xlen n (asked w.hart.xlen fid a) (state_of w))

  pub call-steps-blind : (eid a1 a2 : ℕ) → call_steps eid fid a a1 a2 (with_count n w) ≡ call_steps eid fid a a1 a2 w
  unfolding call_steps
  call-steps-blind eid a1 a2 = rw (call-answer-blind eid fid a a1 a2 n w, total-blind)

  pub steps-made-blind : (k eid : ℕ) → steps_made k eid fid a (with_count n w) ≡ steps_made k eid fid a w
  unfolding steps_made
  steps-made-blind k eid = rw (sync-answer-blind eid fid a n w, total-blind)

  pub finished-blind : (k eid : ℕ) → finished k eid fid a (with_count n w) ≡ finished k eid fid a w
  unfolding finished
  finished-blind k eid = rw (sync-answer-blind eid fid a n w, total-blind)

-- ---- stops

pub stops-blind : (ks : List ℕ) (eid fid a n : ℕ) (w : World) → after_stops ks eid fid a (with_count n w) ≡ with_count n (after_stops ks eid fid a w)
unfolding after_stops
stops-blind [] eid fid a n w = refl
stops-blind (k ∷ ks) eid fid a n w = ap (after_stops ks eid fid a) (stoppable-blind k eid fid a n w) ∙ stops-blind ks eid fid a n (stoppable k eid fid a w)

-- ---- what SRET, a line change and a trap make of the state

module _ (x : Xlen) (n : ℕ) where
  -- either of two states
  either-state : (b : Bool) (s t : State) → cond b (state_with n s) (state_with n t) ≡ state_with n (cond b s t)
  either-state true s t = refl
  either-state false s t = refl

  -- the clean words
  clean-blind : (cs : List Csr) (s : State) → store_clean_words x cs (state_with n s) ≡ state_with n (store_clean_words x cs s)
  unfolding store_clean_words store_reading
  clean-blind [] s = refl
  clean-blind (c ∷ cs) s =
      let b = unclean s.hart.features s.page c in
      ap (store_clean_words x cs) (either-state b s (store_reading x c s)) ∙ clean-blind cs (cond b s (store_reading x c s))

  -- the swap
  swap-blind : (s : State) → autoswapped x (state_with n s) ≡ state_with n (autoswapped x s)
  unfolding autoswapped swapped
  swap-blind s = either-state (swaps x s.hart.features s.page) (swapped x s) s

  swap-reports-blind : (s : State) → swap_reports x (state_with n s) ≡ swap_reports x s
  unfolding swap_reports swapped report_of
  swap-reports-blind s = refl

  -- the turns
  offered-blind : (s : State) → offered_done x (state_with n s) ≡ state_with n (offered_done x s)
  unfolding offered_done
  offered-blind s = turns-blind x n (csrs_offered x s.hart.features ++ entries_offered x s.hart.features) s

  resumed-blind : (s : State) → resumed x (state_with n s) ≡ state_with n (resumed x s)
  unfolding resumed returned
  resumed-blind s = clean-blind (Hstatus ∷ Hip ∷ Vsip ∷ []) (state_from (returned s.hart) s.page s.table)

  -- what SRET does after them, and what it says of the swap
  pub rest-blind : (s : State) → resumed x (autoswapped x (context_loaded x (state_with n s))) ≡ state_with n (resumed x (autoswapped x (context_loaded x s)))
  unfolding context_loaded
  rest-blind s = ap (resumed x) (swap-blind (context_loaded x s)) ∙ resumed-blind (autoswapped x (context_loaded x s))

  pub rest-reports-blind : (s : State) → swap_reports x (context_loaded x (state_with n s)) ≡ swap_reports x (context_loaded x s)
  unfolding context_loaded
  rest-reports-blind s = swap-reports-blind (context_loaded x s)

  -- all of SRET
  sret-blind : (s : State) → sret x (state_with n s) ≡ state_with n (sret x s)
  unfolding sret
  sret-blind s = ap (λ (u : State). resumed x (autoswapped x (context_loaded x u))) (offered-blind s) ∙ rest-blind (offered_done x s)

  sret-reports-blind : (s : State) → sret_reports x (state_with n s) ≡ sret_reports x s
  unfolding sret_reports
  sret-reports-blind s =
      let ms = csrs_offered x s.hart.features in
      ap₂ (λ (rs qs : List Report). rs ++ qs)
      (ap (λ (ys : List Step). reports x ys (state_with n s)) (steps-blind x n ms s) ∙ reports-blind x n (steps x ms s) s)
      (ap (λ (u : State). swap_reports x (context_loaded x u)) (offered-blind s) ∙ rest-reports-blind (offered_done x s))

  -- what a trap stores
  stored-blind : (s : State) → trap_stored x (state_with n s) ≡ state_with n (trap_stored x s)
  unfolding trap_stored
  stored-blind s = ap (store_clean_words x trap_words) (swap-blind s) ∙ clean-blind trap_words (autoswapped x s)

  -- and the page that set blanks
  put-blind : (cs : List Csr) (h : Hart) (p : List ℕ) → put_all x cs (with_dropped h n) p ≡ put_all x cs h p
  unfolding put_all
  put-blind [] h p = refl
  put-blind (c ∷ cs) h p = put-blind cs h _

  blank-blind : (h : Hart) → blank x (with_dropped h n) ≡ blank x h
  unfolding blank
  blank-blind h = put-blind (turn_order x) h (replicate (page_size (bytes x)) 0)

-- ---- calls

module _ (n : ℕ) (w : World) where
  blanked-blind : (lo : ℕ) → blanked lo (with_count n w) ≡ blanked lo w
  unfolding blanked
  blanked-blind lo =
      ap (λ (p : List ℕ). with_part (page_size (bytes w.hart.xlen)) (lo - w.base) p w.memory) (blank-blind w.hart.xlen n w.hart)

  set-blind : (lo hi : ℕ) → page_set lo hi (with_count n w) ≡ with_count n (page_set lo hi w)
  unfolding page_set
  set-blind lo hi = rw (blanked-blind lo)

  sync-blind : (fid a : ℕ) → synced fid a (with_count n w) ≡ with_count n (synced fid a w)
  unfolding synced
  sync-blind fid a = ap (with_state (with_count n w)) (turns-blind w.hart.xlen n (asked w.hart.xlen fid a) (state_of w))

  resume-blind : with_state (with_count n w) (sret w.hart.xlen (state_of (with_count n w))) ≡ with_count n (with_state w (sret w.hart.xlen (state_of w)))
  resume-blind = ap (with_state (with_count n w)) (sret-blind w.hart.xlen n (state_of w))

  done-blind : (fid a0 a1 : ℕ) → done fid a0 a1 (with_count n w) ≡ with_count n (done fid a0 a1 w)
  unfolding done
  done-blind fid a0 a1 =
      either-blind (eqb fid fid_probe) n w _ refl
      (either-blind (eqb fid fid_set) n (page_set a0 a1 w) _ (set-blind a0 a1)
      (either-blind (eqb fid fid_sret) n (with_state w (sret w.hart.xlen (state_of w))) (synced fid a0 w) resume-blind (sync-blind fid a0)))

  pub call-left-blind : (eid fid a0 a1 a2 : ℕ) → call_left eid fid a0 a1 a2 (with_count n w) ≡ with_count n (call_left eid fid a0 a1 a2 w)
  unfolding call_left
  call-left-blind eid fid a0 a1 a2 =
      rw (call-answer-blind eid fid a0 a1 a2 n w)
      (either-blind (accepted (call_answer eid fid a0 a1 a2 w)) n (done fid a0 a1 w) w (done-blind fid a0 a1) refl)

  turn-reports-blind : (ms : List Mark) → let x = w.hart.xlen in
      reports x (steps x ms (state_with n (state_of w))) (state_with n (state_of w)) ≡ reports x (steps x ms (state_of w)) (state_of w)
  turn-reports-blind ms =
      let x = w.hart.xlen in
      ap (λ (ys : List Step). reports x ys (state_with n (state_of w))) (steps-blind x n ms (state_of w)) ∙ reports-blind x n (steps x ms (state_of w)) (state_of w)

  done-reports-blind : (fid a0 : ℕ) → done_reports fid a0 (with_count n w) ≡ done_reports fid a0 w
  unfolding done_reports
  done-reports-blind fid a0 =
      ap₂ (λ (rs qs : List Report). cond (eqb fid fid_sret) rs (cond (eqb fid fid_csr || eqb fid fid_fence) qs []))
      (sret-reports-blind w.hart.xlen n (state_of w)) (turn-reports-blind (asked w.hart.xlen fid a0))

  pub call-reports-blind : (eid fid a0 a1 a2 : ℕ) → call_reports eid fid a0 a1 a2 (with_count n w) ≡ call_reports eid fid a0 a1 a2 w
  unfolding call_reports
  call-reports-blind eid fid a0 a1 a2 = rw (call-answer-blind eid fid a0 a1 a2 n w, done-reports-blind fid a0)

-- ---- line changes and traps

module _ (n : ℕ) where
  pub line-answer-blind : (lines : ℕ) (w : World) → line_answer lines (with_count n w) ≡ line_answer lines w
  unfolding line_answer check1
  line-answer-blind lines w = refl

  line-done-blind : (w : World) → line_done (with_count n w) ≡ with_count n (line_done w)
  unfolding line_done check7
  line-done-blind w =
      either-blind (check7 w) n (with_state w (store_clean_words w.hart.xlen (Hgeip ∷ Hip ∷ Vsip ∷ []) (state_of w))) w
      (ap (with_state (with_count n w)) (clean-blind w.hart.xlen n (Hgeip ∷ Hip ∷ Vsip ∷ []) (state_of w))) refl

  pub line-left-blind : (lines : ℕ) (w : World) → line_left lines (with_count n w) ≡ with_count n (line_left lines w)
  unfolding line_left
  line-left-blind lines w =
      rw (line-answer-blind lines w)
      (either-blind (accepted (line_answer lines w)) n (line_done (lines_stored lines w)) w (line-done-blind (lines_stored lines w)) refl)

  pub trap-answer-blind : (w : World) → trap_answer (with_count n w) ≡ trap_answer w
  unfolding trap_answer check1
  trap-answer-blind w = refl

  trap-done-blind : (w : World) → trap_done (with_count n w) ≡ with_count n (trap_done w)
  unfolding trap_done check7
  trap-done-blind w =
      either-blind (check7 w) n (with_state w (trap_stored w.hart.xlen (state_of w))) w
      (ap (with_state (with_count n w)) (stored-blind w.hart.xlen n (state_of w))) refl

  pub trap-left-blind : (t : Trap) (w : World) → trap_left t (with_count n w) ≡ with_count n (trap_left t w)
  unfolding trap_left trapped
  trap-left-blind t w =
      rw (trap-answer-blind w)
      (either-blind (accepted (trap_answer w)) n (trap_done (trap_taken t w)) w (trap-done-blind (trap_taken t w)) refl)

  pub trap-reports-blind : (t : Trap) (w : World) → trap_reports t (with_count n w) ≡ trap_reports t w
  unfolding trap_reports trapped check7
  trap-reports-blind t w =
      rw (trap-answer-blind w)
      (ap (λ (rs : List Report). cond (accepted (trap_answer w)) (cond (check7 (trap_taken t w)) rs []) [])
      (swap-reports-blind w.hart.xlen n (state_of (trap_taken t w))))

-- runs that count leave what runs that do not leave, but for the count
pub counted-stops : (ks : List ℕ) (eid fid a : ℕ) (w : World)
    → after_counted ks eid fid a w ≡ with_count (after_counted ks eid fid a w).hart.dropped (after_stops ks eid fid a w)
unfolding after_counted after_stops
counted-stops [] eid fid a w = refl
counted-stops (k ∷ ks) eid fid a w =
    let v = stop_counted k eid fid a w in
    let z = after_counted ks eid fid a v in
    counted-stops ks eid fid a v ∙ ap (with_count z.hart.dropped) (stops-blind ks eid fid a v.hart.dropped (stoppable k eid fid a w))

-- and those keep it
pub stops-count : (ks : List ℕ) (eid fid a : ℕ) (w : World) → after_stops ks eid fid a w ≡ with_count w.hart.dropped (after_stops ks eid fid a w)
stops-count ks eid fid a w = stops-blind ks eid fid a w.hart.dropped w

pub stop-count : (k eid fid a : ℕ) (w : World) → (stoppable k eid fid a w).hart.dropped ≡ w.hart.dropped
stop-count k eid fid a w = ap (λ (v : World). v.hart.dropped) (stoppable-blind k eid fid a w.hart.dropped w)
