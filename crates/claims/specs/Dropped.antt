-- What holds of the register writes that dropped bits: what they say, and the count of them (02, Req 07). Each claim names a wrong monitor that it
-- shuts out; `DroppedClaims`, at the end, is all of them.
use Rattle.std.specs.Prelude.{◌≡◌, true, false, cond, List, [], ◌∷◌, ◌++◌, map, ◌≢◌, ℕ, ◌+◌, ◌≤◌, min, length, take}
use Rattle.std.specs.Int.Bits.{bit_xor}
use Rattle.csr.specs.Csrs.{Csr, Hstatus, number, has, turn_order}
use Rattle.hart.specs.declared.trap.Trap.{Trap}
use Rattle.hart.specs.Bits.{all_ones}
use Rattle.hart.specs.Dropped.{Report, report_with}
use Rattle.hart.specs.Features.{has_feature}
use Rattle.hart.specs.Registers.{read}
use Rattle.hart.specs.Stored.{held}
use Rattle.page.specs.Registers.{csr_word, is_dirty}
use Rattle.page.specs.Entries.{every_entry}
use Rattle.world.specs.World.{World, width}
use Rattle.world.specs.State.{state_of}
use Rattle.turns.specs.Steps.{steps}
use Rattle.turns.specs.Reports.{reports}
use Rattle.checks.specs.Fids.{fid_csr, fid_fence, fid_sret}
use Rattle.checks.specs.Codes.{accepted}
use Rattle.checks.specs.Checks.{call_answer, sync_answer}
use Rattle.stops.specs.Sync.{asked, stop_reports, finished}
use Rattle.stops.specs.Stops.{AfterStop}
use Rattle.sret.specs.Sret.{swaps}
use Rattle.nacl.specs.Calls.{call_left, call_reports, with_count, ButCount, call_counted, after_counted}
use Rattle.nacl.specs.Traps.{trap_answer, trap_left, trap_reports}
use Rattle.claims.specs.Events.{Event, OfTypes, answer_to, left_by, reports_of, counted_by, steps_of, finished_by, page_in, swap_word, served_csrs, hstatus_swapped, trap_swaps}

pub record NotByCount (x : Event) (n : ℕ) (w : World) : Type 0 where
  pub answer : answer_to x (with_count n w) ≡ answer_to x w
  pub left : left_by x (with_count n w) ≡ with_count n (left_by x w)
  pub reports : reports_of x (with_count n w) ≡ reports_of x w
  pub steps : steps_of x (with_count n w) ≡ steps_of x w
  pub finished : finished_by x (with_count n w) ≡ finished_by x w

pub record RestartableButCount (ns : List ℕ) (eid fid a a1 a2 : ℕ) (w : World) : Type 0 where
  pub after-each : (ms ks : List ℕ) → ns ≡ ms ++ ks → AfterStop fid a w (with_count w.hart.dropped (after_counted ms eid fid a w))
  pub same_end : ButCount (call_counted eid fid a a1 a2 (after_counted ns eid fid a w)) (call_counted eid fid a a1 a2 w)
  pub same_answer : call_answer eid fid a a1 a2 (after_counted ns eid fid a w) ≡ call_answer eid fid a a1 a2 w

-- calls of one FID, one for each of these parameters, in order, their reports counted: what the last leaves
unfoldable pub calls_counted : ℕ → List ℕ → ℕ → World → World
calls_counted fid [] eid w = w
calls_counted fid (a ∷ bs) eid w = calls_counted fid bs eid (call_counted eid fid a 0 0 w)

-- and what they say
unfoldable pub calls_reports : ℕ → List ℕ → ℕ → World → List Report
calls_reports fid [] eid w = []
calls_reports fid (a ∷ bs) eid w = call_reports eid fid a 0 0 w ++ calls_reports fid bs eid (call_counted eid fid a 0 0 w)

pub record SinglyCounted (eid fid a1 a2 : ℕ) (bs : List ℕ) (w : World) : Type 0 where
  pub reports : call_reports eid fid (all_ones (width w)) a1 a2 w ≡ calls_reports fid bs eid w
  pub left : call_counted eid fid (all_ones (width w)) a1 a2 w ≡ calls_counted fid bs eid w

-- what a run says is what the steps that it makes say; `rest` is what is still to be said
pub record RunSays (n eid fid a a1 a2 : ℕ) (w : World) : Type 0 where
  pub made : accepted (sync_answer eid fid a w) ≡ true
      → stop_reports n eid fid a w ≡ reports (width w) (take n (steps (width w) (asked (width w) fid a) (state_of w))) (state_of w)
  pub rest : List Report
  pub first : call_reports eid fid a a1 a2 w ≡ stop_reports n eid fid a w ++ rest
  pub all : finished n eid fid a w ≡ true → rest ≡ []

-- Nothing that is answered, left or said, but the count itself, goes by the count. Shut out: a monitor that refuses once the count is full.
abbrev pub CountStaysOut : Type 0
CountStaysOut = (x : Event) (n : ℕ) (w : World) → NotByCount x n w

-- A refusal says nothing and counts nothing. Shut out: a refused call that reports the bits it would have dropped.
abbrev pub RefusalsSayNothing : Type 0
RefusalsSayNothing = (x : Event) (w : World) → accepted (answer_to x w) ≡ false → (reports_of x w ≡ []) × (counted_by x w ≡ w)

-- The count goes up by one for each report and stays at 2^32 - 1. Shut out: a count that wraps; one more for a call, however many its reports.
abbrev pub CountIsRaised : Type 0
CountIsRaised =
    (x : Event) (w : World) → w.hart.dropped ≤ 0xFFFFFFFF
    → (counted_by x w).hart.dropped ≡ min (w.hart.dropped + length (reports_of x w)) 0xFFFFFFFF

-- Demand 3 of runs that count, but for the count. Shut out: a call that passes over the registers whose writes its stopped runs have counted.
abbrev pub StopsButCount : Type 0
StopsButCount = (ns : List ℕ) (eid fid a a1 a2 : ℕ) (w : World) → RestartableButCount ns eid fid a a1 a2 w

-- Demand 2 with the count and the reports. Shut out: all-ones that reports against the readings at its end, not right after each write.
abbrev pub EachSinglyCounted : Type 0
EachSinglyCounted =
    (eid a1 a2 : ℕ) (w : World) → SinglyCounted eid fid_csr a1 a2 (map number (turn_order (width w))) w × SinglyCounted eid fid_fence a1 a2 (every_entry (width w)) w

-- FID 2 of one register says, if it was dirty, in which bits its word differs from the reading that it has in the record left: no later step of the
-- call changes that. Shut out: bits given 1 alone; the reading before the write; a clean register reported.
abbrev pub RegisterSaysItsBits : Type 0
RegisterSaysItsBits =
    (eid a1 a2 : ℕ) (w : World) (c : Csr) → has (width w) c ≡ true → accepted (call_answer eid fid_csr (number c) a1 a2 w) ≡ true
    → call_reports eid fid_csr (number c) a1 a2 w
    ≡ cond (is_dirty (page_in w w) c) (report_with (number c) (bit_xor (csr_word (width w) (page_in w w) c) (read c (call_left eid fid_csr (number c) a1 a2 w).hart))) []

-- SRET says what FID 2 with all-ones does, if feature 0, and then, if it swaps, in which bits the swap word differs from hstatus right after the
-- swap. Shut out: the swap unreported; hstatus with SPV cleared; the swap before the registers.
abbrev pub SretSaysItsBits : Type 0
SretSaysItsBits =
    (eid a0 a1 a2 : ℕ) (w : World) → OfTypes w → accepted (call_answer eid fid_sret a0 a1 a2 w) ≡ true
    → call_reports eid fid_sret a0 a1 a2 w
    ≡ cond (has_feature w.hart.features 0) (call_reports eid fid_csr (all_ones (width w)) 0 0 w) []
    ++ cond (swaps (width w) w.hart.features (page_in w w))
    (report_with 0x600 (bit_xor (swap_word w w) (hstatus_swapped w (held Hstatus (served_csrs w (call_left eid fid_sret a0 a1 a2 w)))))) []

-- A trap says, if it swaps, in which bits the swap word differs from hstatus as it leaves it. Shut out: the swap unreported; hstatus before the
-- swap; GVA, SPV and SPVP, which are no register write, reported.
abbrev pub TrapSaysItsBits : Type 0
TrapSaysItsBits =
    (t : Trap) (w : World) → accepted (trap_answer w) ≡ true
    → trap_reports t w ≡ cond (trap_swaps w) (report_with 0x600 (bit_xor (swap_word w w) (read Hstatus (trap_left t w).hart))) []

-- A run of the stoppable form says what its steps say, which is the first of what the call says, and all of it once it has finished. Shut out: a run
-- that reports nothing until it has finished, or writes that it has not made.
abbrev pub RunsSayTheFirst : Type 0
RunsSayTheFirst = (n eid fid a a1 a2 : ℕ) (w : World) → RunSays n eid fid a a1 a2 w

-- No call but FID 2 and SRET says anything. Shut out: a set that reports the words it wiped.
abbrev pub OthersSayNothing : Type 0
OthersSayNothing = (eid fid a0 a1 a2 : ℕ) (w : World) → fid ≢ fid_csr → fid ≢ fid_sret → call_reports eid fid a0 a1 a2 w ≡ []

-- Nothing has more reports than its width has registers, and one of the swap. Shut out: more of them than the room that users are told to lend.
abbrev pub ReportsAreFew : Type 0
ReportsAreFew = (x : Event) (w : World) → length (reports_of x w) ≤ length (turn_order (width w)) + 1

-- all of them
pub record DroppedClaims : Type 0 where
  pub stays_out : CountStaysOut
  pub refusals : RefusalsSayNothing
  pub raised : CountIsRaised
  pub restartable : StopsButCount
  pub singly : EachSinglyCounted
  pub register : RegisterSaysItsBits
  pub sret : SretSaysItsBits
  pub trap : TrapSaysItsBits
  pub runs : RunsSayTheFirst
  pub others : OthersSayNothing
  pub few : ReportsAreFew
