-- For the contracts of inner functions only: what SRET, a line change and a trap leave of memory, and the calls that are served here.
use Rattle.std.specs.Prelude.{◌≡◌, true, false, ◌||◌, List, ℕ, ◌≤◌, eqb, length}
use Rattle.layout.specs.declared.xlen.Xlen.{Xlen}
use Rattle.layout.specs.Width.{bytes}
use Rattle.layout.specs.Geometry.{page_size}
use Rattle.hart.specs.declared.record.Hart.{Hart}
use Rattle.world.specs.Memory.{part_at, with_part}
use Rattle.world.specs.World.{World, width, lent, in_memory, page_there}
use Rattle.world.specs.State.{State, state_from}
use Rattle.checks.specs.declared.answer.Outcome.{Outcome}
use Rattle.checks.specs.Fids.{fid_set, fid_csr, fid_fence, fid_sret}
use Rattle.checks.specs.Codes.{accepted, AnswerIs}
use Rattle.checks.specs.Checks.{is_drop, call_answer}
use Rattle.nacl.specs.Calls.{call_left, call_steps}

-- f on the record h, the page at offset o of memory m and the table t: h', m' and t' are what it leaves
pub record OnPage (xlen : Xlen) (f : State → State) (o : ℕ) (h : Hart) (m t : List ℕ) (h' : Hart) (m' t' : List ℕ) : Type 0 where
  pub page : List ℕ
  pub memory : m' ≡ with_part (page_size (bytes xlen)) o page m
  pub state : state_from h' page t' ≡ f (state_from h (part_at (page_size (bytes xlen)) o m) t)

-- the FID is that of probe, set or SRET; what set names, but for a drop, lies in memory; and SRET has its page in memory and a table of at most
-- 1,024 words
pub record Servable (fid a0 a1 : ℕ) (w : World) : Type 0 where
  pub call : fid ≤ fid_sret
  pub other : (eqb fid fid_csr || eqb fid fid_fence) ≡ false
  pub named : fid ≡ fid_set → is_drop (width w) a0 a1 ≡ false → in_memory (width w) w.base w.memory a0 ≡ true
  pub there : fid ≡ fid_sret → (page_there (width w) w.base w.memory w.hart.shmem ≡ true) × (length w.table ≤ 1024)

-- a call before its reports are counted: its answer, its steps, that these were all, and the record, memory and table
pub record CallServed (eid fid a0 a1 a2 : ℕ) (w : World) (r : Outcome) (memory table : List ℕ) : Type 0 where
  pub answer : AnswerIs r.answer (call_answer eid fid a0 a1 a2 w)
  pub steps : r.steps ≡ call_steps eid fid a0 a1 a2 w
  pub done : r.finished ≡ accepted (call_answer eid fid a0 a1 a2 w)
  pub world : lent r.hart w.base memory table ≡ call_left eid fid a0 a1 a2 w
