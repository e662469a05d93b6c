-- Marks that stand one after the other.
use Rattle.std.specs.Prelude.{cond, List, [], ◌∷◌, ◌++◌, ℕ, zero, suc, ◌+◌}
use Rattle.layout.specs.declared.xlen.Xlen.{Xlen}
use Rattle.csr.specs.Csrs.{at_turn, has}
use Rattle.turns.specs.Marks.{Mark, Dirty, Pending}

-- the mark of the register at turn t, where the width has it
abbrev pub dirty_at_turn : Xlen → ℕ → List Mark
dirty_at_turn x t = cond (has x (at_turn t)) (Dirty (at_turn t) ∷ []) []

-- the mark of entry e
abbrev pub pending_at : ℕ → List Mark
pending_at e = Pending e ∷ []

-- the marks of n numbers from k on, where f gives those of a number: a turn, or an entry's index
abbrev pub marks_from : (ℕ → List Mark) → ℕ → ℕ → List Mark
marks_from f k zero = []
marks_from f k (suc n) = f k ++ marks_from f (k + 1) n
