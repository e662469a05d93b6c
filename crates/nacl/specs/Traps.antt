-- The trap back from the guest (02, Req 02), and what its swap says of the bits that it dropped (Req 07).
use Rattle.std.specs.Prelude.{◌≡◌, cond, not, List, [], ℕ, Ok, Err}
use Rattle.text.specs.Buffer.{Wrote}
use Rattle.layout.specs.declared.xlen.Xlen.{Xlen}
use Rattle.hart.specs.declared.trap.Trap.{Trap}
use Rattle.hart.specs.Trap.{trapped}
use Rattle.hart.specs.Dropped.{Report, report_words}
use Rattle.world.specs.World.{World, width, lent}
use Rattle.world.specs.State.{state_of, with_state}
use Rattle.checks.specs.declared.answer.Success.TheVariants.{Value}
use Rattle.checks.specs.declared.answer.Refusal.TheVariants.{Failed, NotSupported}
use Rattle.checks.specs.declared.answer.Outcome.{Outcome}
use Rattle.checks.specs.Codes.{Answer, accepted, AnswerIs}
use Rattle.checks.specs.Checks.{cut, check1, check7}
use Rattle.sret.specs.Sret.{swap_reports}
use Rattle.trap.specs.Trap.{trap_stored}
use Rattle.nacl.specs.Calls.{tallied}

-- the trap's four words as this width has them
abbrev pub cut_trap : Xlen → Trap → Trap
cut_trap x t = record { cause = cut x t.cause; tval = cut x t.tval; htval = cut x t.htval; htinst = cut x t.htinst; gva = t.gva }

-- check 1, then -2 if V is off
unfoldable pub trap_answer : World → Answer
trap_answer w = cond (not (check1 w)) (Err Failed) (cond (not w.hart.virt) (Err NotSupported) (Ok (Value 0)))

-- the record changes
abbrev pub trap_taken : Trap → World → World
trap_taken t w = lent (trapped t w.hart) w.base w.memory w.table

-- and then the page; with no page in memory there is no store and no swap
unfoldable pub trap_done : World → World
trap_done w = cond (check7 w) (with_state w (trap_stored (width w) (state_of w))) w

-- what a trap leaves, but for the count of writes that dropped bits: a refusal changes nothing
unfoldable pub trap_left : Trap → World → World
trap_left t w = cond (accepted (trap_answer w)) (trap_done (trap_taken t w)) w

-- what its swap says; a refusal, and a trap with no page in memory, say nothing
unfoldable pub trap_reports : Trap → World → List Report
trap_reports t w = cond (accepted (trap_answer w)) (cond (check7 (trap_taken t w)) (swap_reports (width w) (state_of (trap_taken t w))) []) []

-- what a trap leaves, its reports counted
abbrev pub trap_counted : Trap → World → World
trap_counted t w = tallied (trap_reports t w) (trap_left t w)

-- a trap's answer, that it makes no step, the record and memory that it leaves, and what is said at the start of the buffer; the table is only
-- lent to be looked at
pub record TrapIs (t : Trap) (w : World) (r : Outcome) (memory out out' : List ℕ) : Type 0 where
  pub answer : AnswerIs r.answer (trap_answer w)
  pub steps : r.steps ≡ 0
  pub done : r.finished ≡ accepted (trap_answer w)
  pub world : lent r.hart w.base memory w.table ≡ trap_counted t w
  pub told : Wrote out 0 (report_words (trap_reports t w)) out' r.told

-- a trap of any words, which count as the hart's width cuts them
abbrev pub TrapOn : Trap → World → Outcome → List ℕ → List ℕ → List ℕ → Type 0
TrapOn t w r memory out out' = TrapIs (cut_trap (width w) t) w r memory out out'
