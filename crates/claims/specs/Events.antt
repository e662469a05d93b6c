-- What can come to the monitor: a call, a run of the stoppable form, a line change, a trap back; what each is answered and leaves, and what it may
-- touch. The numbers are those that are judged: the outer entries (`CallOn`, `StoppedOn` of nacl/specs/Calls.antt, `TrapOn` of Traps.antt) pass on cut
-- ones.
use Rattle.std.specs.Prelude.{◌≡◌, Bool, true, false, cond, not, ◌&&◌, ◌||◌, List, [], ◌∷◌, ◌++◌, ℕ, ◌^◌, ◌<◌, eqb, ltb, length, get_or}
use Rattle.layout.specs.declared.xlen.Xlen.{Xlen}
use Rattle.layout.specs.Width.{bytes, bits}
use Rattle.layout.specs.Geometry.{page_size, swap_at}
use Rattle.layout.specs.Words.{word_at}
use Rattle.csr.specs.Csrs.{Csr, Hstatus, Hgeip, Hip, Vsip, Htval, Htinst, turn_order, followers}
use Rattle.hart.specs.declared.trap.Trap.{Trap}
use Rattle.hart.specs.Dropped.{Report}
use Rattle.hart.specs.Features.{has_feature}
use Rattle.hart.specs.Legal.{legal_hstatus}
use Rattle.hart.specs.Stored.{stored_count}
use Rattle.hart.specs.WellMade.{each_fits}
use Rattle.world.specs.Memory.{part_at}
use Rattle.world.specs.World.{World, width, offset}
use Rattle.world.specs.State.{State, state_from}
use Rattle.turns.specs.Marks.{Mark}
use Rattle.turns.specs.Stops.{cleared_writes}
use Rattle.checks.specs.Fids.{fid_set, fid_csr, fid_fence, fid_sret}
use Rattle.checks.specs.Codes.{Answer, accepted}
use Rattle.checks.specs.Checks.{call_answer, check7, is_drop, sync_answer}
use Rattle.stops.specs.Sync.{csrs_asked, asked, stoppable, steps_made, stop_reports, finished}
use Rattle.sret.specs.Sret.{csrs_offered, entries_offered, swaps}
use Rattle.nacl.specs.Calls.{call_left, call_steps, call_reports, tallied}
use Rattle.nacl.specs.Lines.{line_answer, line_left}
use Rattle.nacl.specs.Traps.{trap_answer, trap_left, trap_reports}

pub data Event : Type 0 where
  Call : (eid fid a0 a1 a2 : ℕ) → Event
  Stoppable : (n eid fid a : ℕ) → Event
  Lines : (lines : ℕ) → Event
  TrapBack : (t : Trap) → Event

-- below 2^XLEN, at XLEN 64 too
abbrev pub below_xlen : Xlen → ℕ → Bool
below_xlen x v = ltb v (2 ^ bits x)

-- its numbers are words of the hart: the outer entries pass no others, by `CutNumbersFit`
abbrev pub passable : Event → World → Bool
passable (Call eid fid a0 a1 a2) w = each_fits (width w) (eid ∷ fid ∷ a0 ∷ a1 ∷ a2 ∷ [])
passable (Stoppable n eid fid a) w = each_fits (width w) (eid ∷ fid ∷ a ∷ [])
passable (Lines lines) w = true
passable (TrapBack t) w = below_xlen (width w) t.cause && below_xlen (width w) t.tval && below_xlen (width w) t.htval && below_xlen (width w) t.htinst

-- what it stores in a register as it was given are words of the hart: of a trap its words, of the others nothing
abbrev pub storable : Event → World → Bool
storable (Call eid fid a0 a1 a2) w = true
storable (Stoppable n eid fid a) w = true
storable (Lines lines) w = true
storable (TrapBack t) w = passable (TrapBack t) w

-- it is an SRET
abbrev pub is_sret : Event → Bool
is_sret (Call eid fid a0 a1 a2) = eqb fid fid_sret
is_sret (Stoppable n eid fid a) = false
is_sret (Lines lines) = false
is_sret (TrapBack t) = false

-- what the types of the code say of a world: memory is bytes, and the record has its 20 stored registers
pub record OfTypes (w : World) : Type 0 where
  pub memory : (j : ℕ) → get_or w.memory j 0 < 256
  pub csrs : length w.hart.csrs ≡ stored_count

-- the answer
abbrev pub answer_to : Event → World → Answer
answer_to (Call eid fid a0 a1 a2) w = call_answer eid fid a0 a1 a2 w
answer_to (Stoppable n eid fid a) w = sync_answer eid fid a w
answer_to (Lines lines) w = line_answer lines w
answer_to (TrapBack t) w = trap_answer w

-- the record, memory and table that it leaves, but for the count of writes that dropped bits, which stays here as it was: `counted_by` has that too
abbrev pub left_by : Event → World → World
left_by (Call eid fid a0 a1 a2) w = call_left eid fid a0 a1 a2 w
left_by (Stoppable n eid fid a) w = stoppable n eid fid a w
left_by (Lines lines) w = line_left lines w
left_by (TrapBack t) w = trap_left t w

-- what its register writes say of the bits that they dropped (02, Req 07); a line change writes no register
abbrev pub reports_of : Event → World → List Report
reports_of (Call eid fid a0 a1 a2) w = call_reports eid fid a0 a1 a2 w
reports_of (Stoppable n eid fid a) w = stop_reports n eid fid a w
reports_of (Lines lines) w = []
reports_of (TrapBack t) w = trap_reports t w

-- what it leaves, its reports counted
abbrev pub counted_by : Event → World → World
counted_by x w = tallied (reports_of x w) (left_by x w)

-- the steps that it reports
abbrev pub steps_of : Event → World → ℕ
steps_of (Call eid fid a0 a1 a2) w = call_steps eid fid a0 a1 a2 w
steps_of (Stoppable n eid fid a) w = steps_made n eid fid a w
steps_of (Lines lines) w = 0
steps_of (TrapBack t) w = 0

-- whether these were all
abbrev pub finished_by : Event → World → Bool
finished_by (Call eid fid a0 a1 a2) w = accepted (call_answer eid fid a0 a1 a2 w)
finished_by (Stoppable n eid fid a) w = finished n eid fid a w
finished_by (Lines lines) w = accepted (line_answer lines w)
finished_by (TrapBack t) w = accepted (trap_answer w)

-- a set that is accepted and names an address: it blanks the page there, which has its own claim (`SetPageIsBlank`)
abbrev pub blanks : Event → World → Bool
blanks (Call eid fid a0 a1 a2) w = eqb fid fid_set && (accepted (call_answer eid fid a0 a1 a2 w) && not (is_drop (width w) a0 a1))
blanks (Stoppable n eid fid a) w = false
blanks (Lines lines) w = false
blanks (TrapBack t) w = false

-- the marks that a call asks for: FID 2 and 3 those of the parameter, SRET those that the features offer, the others none
abbrev pub call_marks : (xlen : Xlen) → ℕ → ℕ → ℕ → List Mark
call_marks xlen features fid a =
    cond (eqb fid fid_csr || eqb fid fid_fence) (asked xlen fid a) (cond (eqb fid fid_sret) (csrs_offered xlen features ++ entries_offered xlen features) [])

abbrev pub marks_asked : Event → World → List Mark
marks_asked (Call eid fid a0 a1 a2) w = call_marks (width w) w.hart.features fid a0
marks_asked (Stoppable n eid fid a) w = call_marks (width w) w.hart.features fid a
marks_asked (Lines lines) w = []
marks_asked (TrapBack t) w = []

-- each of these registers, and its followers
unfoldable pub with_followers : List Csr → List Csr
with_followers [] = []
with_followers (c ∷ cs) = c ∷ (followers c ++ with_followers cs)

-- the registers whose words a call may store, a set that blanks a page apart: FID 2 those asked for and their followers; SRET all with feature 0,
-- else hstatus, hip, vsip
abbrev pub call_words : (xlen : Xlen) → ℕ → ℕ → ℕ → List Csr
call_words xlen features fid a =
    cond (eqb fid fid_csr) (with_followers (csrs_asked xlen a))
    (cond (eqb fid fid_sret) (cond (has_feature features 0) (turn_order xlen) (Hstatus ∷ Hip ∷ Vsip ∷ [])) [])

abbrev pub words_allowed : Event → World → List Csr
words_allowed (Call eid fid a0 a1 a2) w = call_words (width w) w.hart.features fid a0
words_allowed (Stoppable n eid fid a) w = call_words (width w) w.hart.features fid a
words_allowed (Lines lines) w = Hgeip ∷ Hip ∷ Vsip ∷ []
words_allowed (TrapBack t) w = Hstatus ∷ Htval ∷ Htinst ∷ Hip ∷ Vsip ∷ []

-- the page of world w, in the memory of world v
abbrev pub page_in : World → World → List ℕ
page_in w v = part_at (page_size (bytes (width w))) (offset w) v.memory

-- the swap word may be stored: SRET or a trap, feature 3 and flag bit 0
abbrev pub swap_allowed : Event → World → Bool
swap_allowed (Call eid fid a0 a1 a2) w = eqb fid fid_sret && swaps (width w) w.hart.features (page_in w w)
swap_allowed (Stoppable n eid fid a) w = false
swap_allowed (Lines lines) w = false
swap_allowed (TrapBack t) w = swaps (width w) w.hart.features (page_in w w)

-- record, page of w, and table, in world v
abbrev pub state_in : World → World → State
state_in w v = state_from v.hart (page_in w v) v.table

-- the swap word of world w's page, in the memory of world v
abbrev pub swap_word : World → World → ℕ
swap_word w v = word_at (bytes (width w)) (page_in w v) (swap_at (bytes (width w)))

-- the stored registers of w with the words of the registers whose marks were cleared from w to v written, in turn order
abbrev pub served_csrs : World → World → List ℕ
served_csrs w v = (cleared_writes (width w) (turn_order (width w)) (page_in w w) (page_in w v) w.hart).csrs

-- hstatus as the synchronization leaves it, and then the swap, if feature 3 and flag bit 0
abbrev pub hstatus_swapped : World → ℕ → ℕ
hstatus_swapped w old = cond (swaps (width w) w.hart.features (page_in w w)) (legal_hstatus (width w) old (swap_word w w)) old

-- a trap swaps: the page is in memory, feature 3 and flag bit 0
abbrev pub trap_swaps : World → Bool
trap_swaps w = check7 w && swaps (width w) w.hart.features (page_in w w)
