-- For the contracts of inner functions only: what steps on the page's part of memory leave.
use Rattle.std.specs.Prelude.{◌≡◌, List, ℕ, Option}
use Rattle.layout.specs.declared.xlen.Xlen.{Xlen}
use Rattle.layout.specs.Width.{bytes}
use Rattle.layout.specs.Geometry.{page_size}
use Rattle.world.specs.Memory.{part_at, with_part}
use Rattle.world.specs.State.{state_from}
use Rattle.hart.specs.declared.record.Hart.{Hart}
use Rattle.turns.specs.Marks.{Mark}
use Rattle.turns.specs.Steps.{steps, Made}
use Rattle.sync.specs.Progress.{left_of, stopped_in}

-- of the steps for these marks from the record h, the page at offset o of memory m and the table t the first n are made: h', m' and t' are
-- what they leave, and `left` says how many more were allowed, or that a step was left
pub record Served (xlen : Xlen) (ms : List Mark) (o n : ℕ) (h : Hart) (m t : List ℕ) (h' : Hart) (m' t' : List ℕ) (left : Option ℕ) : Type 0 where
  pub page : List ℕ
  pub memory : m' ≡ with_part (page_size (bytes xlen)) o page m
  pub made : Made xlen (steps xlen ms (state_from h (part_at (page_size (bytes xlen)) o m) t)) (state_from h (part_at (page_size (bytes xlen)) o m) t) n
      (state_from h' page t') (left_of left) (stopped_in left)
