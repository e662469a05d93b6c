-- For the contracts of inner functions only: the table of the lookup (02, Req 04), 1,024 places, one for each index.
use Rattle.std.specs.Prelude.{cond, List, [], ◌∷◌, ℕ, eqb, Option, Some, None}
use Rattle.layout.specs.declared.xlen.Xlen.{Xlen}
use Rattle.layout.specs.Geometry.{index_of}
use Rattle.csr.specs.Csrs.{Csr, csr_count, every_csr, number, turn_of, turn_order}

-- the turn of the first register of the list that has index i
abbrev pub find_index : List Csr → ℕ → Option ℕ
find_index [] i = None
find_index (c ∷ cs) i = cond (eqb i (index_of (number c))) (Some (turn_of c)) (find_index cs i)

-- the turn of the register with index i that this width has, or nothing
abbrev pub at_index : Xlen → ℕ → Option ℕ
at_index x i = find_index (turn_order x) i

-- a turn as it stands in the table: 25, which is no register's, stands for none
abbrev pub or_none : Option ℕ → ℕ
or_none (Some t) = t
or_none None = csr_count

-- what place i holds: the turn of the register of either width with that index, or none
abbrev pub place : ℕ → ℕ
place i = or_none (find_index every_csr i)
