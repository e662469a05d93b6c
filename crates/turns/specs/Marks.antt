-- 01's "marks": the dirty bit of a register of either width, or a fence entry's Pending.
use Rattle.std.specs.Prelude.{Bool, List, ℕ}
use Rattle.layout.specs.declared.xlen.Xlen.{Xlen}
use Rattle.csr.specs.Csrs.{Csr}
use Rattle.page.specs.Registers.{is_dirty}
use Rattle.page.specs.Entries.{is_pending}

pub data Mark : Type 0 where
  Dirty : Csr → Mark
  Pending : ℕ → Mark

-- the mark is set
abbrev pub is_marked : (xlen : Xlen) → List ℕ → Mark → Bool
is_marked xlen p (Dirty c) = is_dirty p c
is_marked xlen p (Pending e) = is_pending xlen p e
