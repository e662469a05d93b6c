-- What the exported functions answer and leave: what is right for the record of a well-formed block; any other block is refused at check 1.
use Rattle.std.specs.Prelude.{◌≡◌, Bool, false, cond, List, [], ℕ, ◌%◌, eqb, ℤ, length, Err}
use Rattle.text.specs.Buffer.{over}
use Rattle.layout.specs.declared.xlen.Xlen.{Xlen}
use Rattle.hart.specs.declared.trap.Trap.{Trap}
use Rattle.hart.specs.Dropped.{Report, report_words}
use Rattle.checks.specs.declared.answer.Refusal.TheVariants.{Failed}
use Rattle.world.specs.World.{World, lent}
use Rattle.checks.specs.Codes.{Answer, code_of}
use Rattle.checks.specs.Checks.{cut, call_answer, sync_answer}
use Rattle.stops.specs.Sync.{steps_made, finished, stop_reports}
use Rattle.nacl.specs.Calls.{call_reports, call_counted, stop_counted}
use Rattle.nacl.specs.Lines.{line_answer, line_left}
use Rattle.nacl.specs.Traps.{cut_trap, trap_answer, trap_reports, trap_counted}
use Rattle.block.specs.Block.{well_formed, record_of, block_of}
use Rattle.abi.specs.Answers.{answered}

-- what is lent across the boundary: the record's block, L1 memory with the physical address of its first byte, and the translation table
pub record Lent : Type 0 where
  pub hart : List ℕ
  pub base : ℕ
  pub memory : List ℕ
  pub table : List ℕ

-- what an exported function is lent
abbrev pub lent_block : List ℕ → ℕ → List ℕ → List ℕ → Lent
lent_block hart base memory table = record { hart = hart; base = base; memory = memory; table = table }

-- the same with the record that the block holds
abbrev pub world_of : Lent → World
world_of l = lent (record_of l.hart) l.base l.memory l.table

-- and back
abbrev pub lent_of : World → Lent
lent_of w = lent_block (block_of w.hart) w.base w.memory w.table

-- the width of that record
abbrev pub width_of : Lent → Xlen
width_of l = (world_of l).hart.xlen

-- the answer that a block gets; one that is not well formed is refused at check 1
unfoldable pub cross_answer : (World → Answer) → Lent → Answer
cross_answer f l = cond (well_formed l.hart) (f (world_of l)) (Err Failed)

-- what is left; one that is not well formed changes nothing
unfoldable pub cross_left : (World → World) → Lent → Lent
cross_left f l = cond (well_formed l.hart) (lent_of (f (world_of l))) l

-- the steps reported
unfoldable pub cross_steps : (World → ℕ) → Lent → ℕ
cross_steps f l = cond (well_formed l.hart) (f (world_of l)) 0

-- whether these were all
unfoldable pub cross_finished : (World → Bool) → Lent → Bool
cross_finished f l = cond (well_formed l.hart) (f (world_of l)) false

-- the reports of the register writes
unfoldable pub cross_reports : (World → List Report) → Lent → List Report
cross_reports f l = cond (well_formed l.hart) (f (world_of l)) []

-- a crossing: the code r, what is lent and the answer's block afterwards, and the buffer with the reports at its start, as much of them as has room
pub record Crosses (answer : World → Answer) (left : World → World) (steps : World → ℕ) (finished : World → Bool) (said : World → List Report)
    (l : Lent) (block out : List ℕ) (r : ℤ) (l' : Lent) (block' out' : List ℕ) : Type 0 where
  pub code : r ≡ code_of (cross_answer answer l)
  pub lent : l' ≡ cross_left left l
  pub told : block' ≡ answered (cross_answer answer l) (cross_steps steps l) (cross_finished finished l) (length (cross_reports said l)) block
  pub reports : out' ≡ over out 0 (report_words (cross_reports said l))

-- no steps are counted
abbrev pub no_steps : World → ℕ
no_steps w = 0

-- and none are said to be all
abbrev pub unfinished : World → Bool
unfinished w = false

-- a line change writes no register
abbrev pub no_reports : World → List Report
no_reports w = []

-- a call of numbers that fit the record's width; steps and finished are 0
abbrev pub CallAt : ℕ → ℕ → ℕ → ℕ → ℕ → Lent → List ℕ → List ℕ → ℤ → Lent → List ℕ → List ℕ → Type 0
CallAt eid fid a0 a1 a2 = Crosses (call_answer eid fid a0 a1 a2) (call_counted eid fid a0 a1 a2) no_steps unfinished (call_reports eid fid a0 a1 a2)

-- any call: the numbers count as that width cuts them
abbrev pub CallCrosses : ℕ → ℕ → ℕ → ℕ → ℕ → Lent → List ℕ → List ℕ → ℤ → Lent → List ℕ → List ℕ → Type 0
CallCrosses eid fid a0 a1 a2 l = let x = width_of l in CallAt (cut x eid) (cut x fid) (cut x a0) (cut x a1) (cut x a2) l

-- the stoppable form with N = n, of such numbers
abbrev pub StopAt : ℕ → ℕ → ℕ → ℕ → Lent → List ℕ → List ℕ → ℤ → Lent → List ℕ → List ℕ → Type 0
StopAt n eid fid a = Crosses (sync_answer eid fid a) (stop_counted n eid fid a) (steps_made n eid fid a) (finished n eid fid a) (stop_reports n eid fid a)

-- and of any; N is not cut
abbrev pub StopCrosses : ℕ → ℕ → ℕ → ℕ → Lent → List ℕ → List ℕ → ℤ → Lent → List ℕ → List ℕ → Type 0
StopCrosses n eid fid a l = let x = width_of l in StopAt n (cut x eid) (cut x fid) (cut x a) l

-- a line change; steps and finished are 0, and there is no buffer
abbrev pub LineCrosses : ℕ → Lent → List ℕ → ℤ → Lent → List ℕ → Type 0
LineCrosses lines l block r l' block' = Crosses (line_answer lines) (line_left lines) no_steps unfinished no_reports l block [] r l' block' []

-- the trap that five words name: GVA is bit 0 of the last, the rest of which is ignored
abbrev pub trap_of : ℕ → ℕ → ℕ → ℕ → ℕ → Trap
trap_of cause tval htval htinst gva = record { cause = cause; tval = tval; htval = htval; htinst = htinst; gva = eqb (gva % 2) 1 }

-- a trap back from the guest, whose four words count as the width of the record cuts them; steps and finished are 0
abbrev pub TrapCrosses : Trap → Lent → List ℕ → List ℕ → ℤ → Lent → List ℕ → List ℕ → Type 0
TrapCrosses t l = let x = width_of l in Crosses trap_answer (trap_counted (cut_trap x t)) no_steps unfinished (trap_reports (cut_trap x t)) l
