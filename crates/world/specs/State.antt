-- What a synchronization works on: the record, the page and the table, lent by a world and put back into it.
use Rattle.std.specs.Prelude.{List, ℕ}
use Rattle.layout.specs.Width.{bytes}
use Rattle.layout.specs.Geometry.{page_size}
use Rattle.hart.specs.declared.record.Hart.{Hart}
use Rattle.world.specs.Memory.{part_at, with_part}
use Rattle.world.specs.World.{World, width, offset}

pub record State : Type 0 where
  pub hart : Hart
  pub page : List ℕ
  pub table : List ℕ

-- the state of a function that is lent these
abbrev pub state_from : Hart → List ℕ → List ℕ → State
state_from h page table = record { hart = h; page = page; table = table }

-- what a world lends
abbrev pub state_of : World → State
state_of w = record { hart = w.hart; page = part_at (page_size (bytes (width w))) (offset w) w.memory; table = w.table }

-- the world with that put back
abbrev pub with_state : World → State → World
with_state w s = record { hart = s.hart; base = w.base; memory = with_part (page_size (bytes (width w))) (offset w) s.page w.memory; table = s.table }
