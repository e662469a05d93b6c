-- The lookup of a register as words: the width is 32 or 64, and all-ones stands for nothing.
use Rattle.std.specs.Prelude.{cond, ℕ, eqb, Option, Some, None}
use Rattle.layout.specs.declared.xlen.Xlen.TheVariants.{X32, X64}
use Rattle.csr.specs.Csrs.{lookup}

-- the turn, or all-ones for nothing
abbrev pub turn_word : Option ℕ → ℕ
turn_word (Some t) = t
turn_word None = 0xFFFFFFFFFFFFFFFF

-- the turn of the register with number n at XLEN 32 or 64; all-ones where that width has none, and for another width
abbrev pub turn_asked : ℕ → ℕ → ℕ
turn_asked xlen n = cond (eqb xlen 32) (turn_word (lookup X32 n)) (cond (eqb xlen 64) (turn_word (lookup X64 n)) 0xFFFFFFFFFFFFFFFF)
