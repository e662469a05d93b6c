-- The marks of every turn, of one turn, and of every entry.
use mathlib.Core.Path.{◌≡◌, refl, ap}
use mathlib.Core.Bool.{Bool, true, cond}
use mathlib.Core.List.{[], ◌∷◌, ◌++◌, map}
use Prim.Native.Nat.{ℕ}
use Rattle.layout.specs.declared.xlen.Xlen.{Xlen}
use Rattle.layout.specs.declared.xlen.Xlen.TheVariants.{X32, X64}
use Rattle.layout.specs.Width.{bytes}
use Rattle.layout.specs.Geometry.{entry_count}
use Rattle.csr.specs.Csrs.{csr_count, at_turn, has, turn_order}
use Rattle.page.specs.Entries.{every_entry}
use Rattle.turns.specs.Marks.{Dirty, Pending}
use Rattle.sync.specs.Turns.{dirty_at_turn, pending_at, marks_from}

-- of every turn: those of the registers that the width has
pub all-csrs : (x : Xlen) → marks_from (dirty_at_turn x) 0 csr_count ≡ map Dirty (turn_order x)
all-csrs X32 = refl
all-csrs X64 = refl

-- of one turn that it has
pub one-csr : (x : Xlen) (t : ℕ) → has x (at_turn t) ≡ true → marks_from (dirty_at_turn x) t 1 ≡ Dirty (at_turn t) ∷ []
one-csr x t h = ap (λ (b : Bool). cond b (Dirty (at_turn t) ∷ []) [] ++ []) h

-- of every entry
pub all-entries : (x : Xlen) → marks_from pending_at 0 (entry_count (bytes x)) ≡ map Pending (every_entry x)
all-entries X32 = refl
all-entries X64 = refl
