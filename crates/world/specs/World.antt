-- What the monitor lends to a call (01, "What the monitor lends"), and where the page lies in it.
use Rattle.std.specs.Prelude.{Bool, false, List, ℕ, ◌-◌, Option, Some, None}
use Rattle.layout.specs.declared.xlen.Xlen.{Xlen}
use Rattle.layout.specs.Width.{bytes}
use Rattle.layout.specs.Geometry.{page_size}
use Rattle.hart.specs.declared.record.Hart.{Hart}
use Rattle.world.specs.Memory.{within}

-- the record, L1 memory with the physical address of its first byte, and the translation table
pub record World : Type 0 where
  pub hart : Hart
  pub base : ℕ
  pub memory : List ℕ
  pub table : List ℕ

-- the width of its hart
abbrev pub width : World → Xlen
width w = w.hart.xlen

-- what a function is lent, as a world
abbrev pub lent : Hart → ℕ → List ℕ → List ℕ → World
lent h base memory table = record { hart = h; base = base; memory = memory; table = table }

-- the bytes of a page of this width from address a lie wholly in L1 memory
abbrev pub in_memory : Xlen → ℕ → List ℕ → ℕ → Bool
in_memory x base memory a = within (page_size (bytes x)) base memory a

-- the page is set and lies wholly in L1 memory
abbrev pub page_there : Xlen → ℕ → List ℕ → Option ℕ → Bool
page_there x base memory None = false
page_there x base memory (Some a) = in_memory x base memory a

-- where the page begins in memory, for a page that is there
abbrev pub page_offset : ℕ → Option ℕ → ℕ
page_offset base None = 0
page_offset base (Some a) = a - base

-- where the page of a world begins in its memory
abbrev pub offset : World → ℕ
offset w = page_offset w.base w.hart.shmem
