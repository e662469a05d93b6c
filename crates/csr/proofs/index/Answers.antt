-- `csr::index` meets its contract: an arm's turn has this index, and the last turn is what is left.
use mathlib.Core.List.{[], ◌∷◌}
use mathlib.Core.Path.{refl}
use lib.Dec.{lit<}
use Rattle.layout.specs.Geometry.{index_of}
use Rattle.csr.specs.Csrs.{number as number_of}
use Rattle.csr.proofs.Table.{same-but}
use Rattle.csr.proofs.index.Goals as goal

pub returns-in_default : goal.returns-in_default
returns-in_default c = (same-but (23 ∷ 22 ∷ 21 ∷ 20 ∷ 19 ∷ 18 ∷ 17 ∷ 16 ∷ 15 ∷ 14 ∷ 13 ∷ 12 ∷ 11 ∷ 10 ∷ 9 ∷ 8 ∷ 7 ∷ 6 ∷ 5 ∷ 4 ∷ 3 ∷ 2 ∷ 1 ∷ 0 ∷ []) (λ d. 0x80) (λ d. index_of (number_of d)) refl refl c.args.t (assumption), lit< tt)
