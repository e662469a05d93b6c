-- A line change (01, "SRET and lines").
use Rattle.std.specs.Prelude.{◌≡◌, cond, not, List, [], ◌∷◌, ℕ, Ok, Err}
use Rattle.csr.specs.Csrs.{Hgeip, Hip, Vsip}
use Rattle.hart.specs.Record.{with_lines}
use Rattle.hart.specs.WellMade.{lines_well_made}
use Rattle.world.specs.World.{World, width, lent}
use Rattle.world.specs.State.{state_of, with_state}
use Rattle.turns.specs.Clean.{store_clean_words}
use Rattle.checks.specs.declared.answer.Success.TheVariants.{Value}
use Rattle.checks.specs.declared.answer.Refusal.TheVariants.{Failed, InvalidParam}
use Rattle.checks.specs.declared.answer.Outcome.{Outcome}
use Rattle.checks.specs.Codes.{Answer, accepted, AnswerIs}
use Rattle.checks.specs.Checks.{check1, check7}

-- check 1 applies; bits outside 7:1 are -3
unfoldable pub line_answer : ℕ → World → Answer
line_answer lines w = cond (not (check1 w)) (Err Failed) (cond (not (lines_well_made lines)) (Err InvalidParam) (Ok (Value 0)))

-- the lines are stored
abbrev pub lines_stored : ℕ → World → World
lines_stored lines w = lent (with_lines w.hart lines) w.base w.memory w.table

-- and, if the page is set and lies in memory, the clean words of hgeip, hip, vsip
unfoldable pub line_done : World → World
line_done w = cond (check7 w) (with_state w (store_clean_words (width w) (Hgeip ∷ Hip ∷ Vsip ∷ []) (state_of w))) w

-- what a line change leaves: a refusal changes nothing
unfoldable pub line_left : ℕ → World → World
line_left lines w = cond (accepted (line_answer lines w)) (line_done (lines_stored lines w)) w

-- a line change's answer, that it makes no step and writes no register, and the record and memory that it leaves; the table is only lent to be
-- looked at
pub record LineIs (lines : ℕ) (w : World) (r : Outcome) (memory : List ℕ) : Type 0 where
  pub answer : AnswerIs r.answer (line_answer lines w)
  pub steps : r.steps ≡ 0
  pub done : r.finished ≡ accepted (line_answer lines w)
  pub world : lent r.hart w.base memory w.table ≡ line_left lines w
  pub told : r.told ≡ 0
