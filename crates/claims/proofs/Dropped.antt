-- The count of the register writes that dropped bits, and what they say.
use mathlib.Core.Path.{◌≡◌, refl, sym, ap, ◌∙◌, subst}
use mathlib.Core.Bool.{false}
use mathlib.Core.List.{List, [], ◌∷◌, ◌++◌}
use mathlib.Core.Logic.{⊎_elim}
use Prim.Native.Nat.{ℕ, ◌+◌, ◌≤◌, min}
use native.Mathlib.Nat.{min-eq_left, min-eq_right}
use native.Mathlib.Omega.{arith}
use borrow.Author.Tests.{leb-true, leb-false}
use lib.Dec.{leb}
use lib.ListN.{length}
use Rattle.hart.specs.Dropped.{Report, more_dropped, most_dropped}
use Rattle.hart.proofs.Counting.{more-sum, more-most}
use Rattle.world.specs.World.{World}
use Rattle.checks.specs.Codes.{accepted}
use Rattle.checks.specs.Checks.{call_answer}
use Rattle.checks.proofs.Truth.{either}
use Rattle.stops.specs.Sync.{stop_reports, stoppable}
use Rattle.stops.specs.Stops.{AfterStop, after_stops}
use Rattle.stops.proofs.Restart.{restartable}
use Rattle.nacl.specs.Calls.{call_left, call_reports, with_count, tallied, stop_counted, after_counted}
use Rattle.nacl.specs.Traps.{trap_reports}
use Rattle.nacl.proofs.Blind.{call-answer-blind, sync-answer-blind, stoppable-blind, stop-reports-blind, stops-blind, call-left-blind, call-reports-blind, call-steps-blind, steps-made-blind, finished-blind, line-answer-blind, line-left-blind, trap-answer-blind, trap-left-blind, trap-reports-blind}
use Rattle.nacl.proofs.Stopped.{call-after-stops}
use Rattle.claims.specs.Events.{Event, Call, Stoppable, Lines, TrapBack, answer_to, left_by, reports_of}
use Rattle.claims.specs.Dropped.{CountStaysOut, RefusalsSayNothing, CountIsRaised, StopsButCount}
use Rattle.claims.proofs.Refusals.{refusals-change-nothing}

pub count-stays-out : CountStaysOut
count-stays-out (Call eid fid a0 a1 a2) n w =
    let answer = call-answer-blind eid fid a0 a1 a2 n w in
    record {
      answer = answer;
      left = call-left-blind n w eid fid a0 a1 a2;
      reports = call-reports-blind n w eid fid a0 a1 a2;
      steps = call-steps-blind fid a0 n w eid a1 a2;
      finished = ap accepted answer;
    }
count-stays-out (Stoppable k eid fid a) n w =
    record {
      answer = sync-answer-blind eid fid a n w;
      left = stoppable-blind k eid fid a n w;
      reports = stop-reports-blind k eid fid a n w;
      steps = steps-made-blind fid a n w k eid;
      finished = finished-blind fid a n w k eid;
    }
count-stays-out (Lines lines) n w =
    let answer = line-answer-blind n lines w in
    record { answer = answer; left = line-left-blind n lines w; reports = refl; steps = refl; finished = ap accepted answer }
count-stays-out (TrapBack t) n w =
    let answer = trap-answer-blind n w in
    record { answer = answer; left = trap-left-blind n t w; reports = trap-reports-blind n t w; steps = refl; finished = ap accepted answer }

-- ---- refusals

pub silent : (x : Event) (w : World) → accepted (answer_to x w) ≡ false → reports_of x w ≡ []
unfolding call_reports stop_reports trap_reports
silent (Call eid fid a0 a1 a2) w r = rw r
silent (Stoppable n eid fid a) w r = rw r
silent (Lines lines) w r = refl
silent (TrapBack t) w r = rw r

-- no report counts nothing
none-counted : (w : World) → tallied [] w ≡ w
unfolding more_dropped
none-counted w = refl

pub refusals-say-nothing : RefusalsSayNothing
refusals-say-nothing x w r =
    let s = silent x w r in
    (s, ap (λ (rs : List Report). tallied rs (left_by x w)) s ∙ ap (tallied []) (refusals-change-nothing x w r).same ∙ none-counted w)

-- ---- the count

-- k more, but at most 2^32 - 1
raised : (k n : ℕ) → n ≤ most_dropped → more_dropped k n ≡ min (n + k) most_dropped
raised k n le =
    ⊎_elim (λ t. let room = leb-true (n + k) most_dropped t in more-sum k n room ∙ sym (min-eq_left room))
    (λ f. let full : most_dropped ≤ n + k = omega (arith, leb-false (n + k) most_dropped f) in more-most k n le full ∙ sym (min-eq_right full))
    (either (leb (n + k) most_dropped))

pub count-is-raised : CountIsRaised
count-is-raised x w le =
    ap (more_dropped (length (reports_of x w))) (ap (λ (v : World). v.hart.dropped) (count-stays-out x w.hart.dropped w).left)
    ∙ raised (length (reports_of x w)) w.hart.dropped le

-- ---- stops

module _ (eid fid a : ℕ) where
  -- runs that count leave what runs leave, but for the count
  but-count : (c : ℕ) (ns : List ℕ) (w : World) → with_count c (after_counted ns eid fid a w) ≡ with_count c (after_stops ns eid fid a w)
  unfolding after_counted after_stops
  but-count c [] w = refl
  but-count c (n ∷ ns) w =
      let v = stoppable n eid fid a w in
      let m = more_dropped (length (stop_reports n eid fid a w)) v.hart.dropped in
      but-count c ns (stop_counted n eid fid a w) ∙ ap (with_count c) (stops-blind ns eid fid a m v)

pub stops-but-count : StopsButCount
stops-but-count ns eid fid a a1 a2 w =
    record { after-each = each; same_end = end; same_answer = answer }
  where
    each : (ms ks : List ℕ) → ns ≡ ms ++ ks → AfterStop fid a w (with_count w.hart.dropped (after_counted ms eid fid a w))
    each ms ks e =
        subst (AfterStop fid a w) (stops-blind ms eid fid a w.hart.dropped w ∙ sym (but-count eid fid a w.hart.dropped ms w))
        ((restartable ns eid fid a w).after-each ms ks e)

    end : with_count 0 (call_left eid fid a a1 a2 (after_counted ns eid fid a w)) ≡ with_count 0 (call_left eid fid a a1 a2 w)
    end =
        sym (call-left-blind 0 (after_counted ns eid fid a w) eid fid a a1 a2) ∙ ap (call_left eid fid a a1 a2) (but-count eid fid a 0 ns w)
        ∙ call-left-blind 0 (after_stops ns eid fid a w) eid fid a a1 a2 ∙ ap (with_count 0) (call-after-stops ns eid fid a a1 a2 w).1

    answer : call_answer eid fid a a1 a2 (after_counted ns eid fid a w) ≡ call_answer eid fid a a1 a2 w
    answer =
        sym (call-answer-blind eid fid a a1 a2 0 (after_counted ns eid fid a w)) ∙ ap (call_answer eid fid a a1 a2) (but-count eid fid a 0 ns w)
        ∙ call-answer-blind eid fid a a1 a2 0 (after_stops ns eid fid a w) ∙ (call-after-stops ns eid fid a a1 a2 w).0
