-- The dirty bit of a CSR index in a page.
use Rattle.std.specs.Prelude.{Bool, List, ℕ, ◌%◌, eqb, get_or, set}
use Rattle.layout.specs.Bits.{bit_of, clear_bit, set_bit}
use Rattle.layout.specs.Geometry.{dirty_at}

-- the byte of the dirty bitmap that holds index i
abbrev pub dirty_byte : List ℕ → ℕ → ℕ
dirty_byte p i = get_or p (dirty_at i) 0

-- index i is marked dirty
abbrev pub dirty : List ℕ → ℕ → Bool
dirty p i = eqb (bit_of (dirty_byte p i) (i % 8)) 1

-- p with the dirty bit of index i cleared
abbrev pub clear_dirty : List ℕ → ℕ → List ℕ
clear_dirty p i = set p (dirty_at i) (clear_bit (dirty_byte p i) (i % 8))

-- p with the dirty bit of index i set, which is how the hypervisor marks a register
abbrev pub set_dirty : List ℕ → ℕ → List ℕ
set_dirty p i = set p (dirty_at i) (set_bit (dirty_byte p i) (i % 8))
