-- What the monitor's outermost entries answer, leave and say.
use Rattle.std.specs.Prelude.{◌≡◌, List, ℕ}
use Rattle.text.specs.Buffer.{Wrote}
use Rattle.hart.specs.declared.trap.Trap.{Trap}
use Rattle.hart.specs.Dropped.{report_words}
use Rattle.world.specs.World.{World, width}
use Rattle.checks.specs.Codes.{Answer, AnswerIs}
use Rattle.checks.specs.Checks.{cut, call_answer}
use Rattle.nacl.specs.Calls.{call_counted, call_reports}
use Rattle.nacl.specs.Lines.{line_answer, line_left}
use Rattle.nacl.specs.Traps.{cut_trap, trap_answer, trap_counted, trap_reports}
use Rattle.monitor.specs.declared.Told.{Told}

-- a call on what the monitor lends: the answer, what is left, and what the register writes say at the start of the buffer
pub record Called (eid fid a0 a1 a2 : ℕ) (w : World) (out : List ℕ) (r : Told) (w' : World) (out' : List ℕ) : Type 0 where
  pub answer : AnswerIs r.answer (call_answer eid fid a0 a1 a2 w)
  pub left : w' ≡ call_counted eid fid a0 a1 a2 w
  pub told : Wrote out 0 (report_words (call_reports eid fid a0 a1 a2 w)) out' r.told

-- a call of any numbers, which count as the lent record's width cuts them
abbrev pub CalledOn : ℕ → ℕ → ℕ → ℕ → ℕ → World → List ℕ → Told → World → List ℕ → Type 0
CalledOn eid fid a0 a1 a2 w out r w' out' = let x = width w in Called (cut x eid) (cut x fid) (cut x a0) (cut x a1) (cut x a2) w out r w' out'

-- and a line change, which writes no register
pub record LinesChanged (lines : ℕ) (w : World) (r : Answer) (w' : World) : Type 0 where
  pub answer : AnswerIs r (line_answer lines w)
  pub left : w' ≡ line_left lines w

-- and a trap back
pub record Trapped (t : Trap) (w : World) (out : List ℕ) (r : Told) (w' : World) (out' : List ℕ) : Type 0 where
  pub answer : AnswerIs r.answer (trap_answer w)
  pub left : w' ≡ trap_counted t w
  pub told : Wrote out 0 (report_words (trap_reports t w)) out' r.told

-- a trap back with any words, which count as the lent record's width cuts them
abbrev pub TrappedOn : Trap → World → List ℕ → Told → World → List ℕ → Type 0
TrappedOn t w out r w' out' = Trapped (cut_trap (width w) t) w out r w' out'
