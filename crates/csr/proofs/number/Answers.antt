-- `csr::number` meets its contract: an arm's turn has this number, and the last turn is what is left.
use mathlib.Core.List.{[], ◌∷◌}
use mathlib.Core.Path.{refl}
use Rattle.csr.specs.Csrs.{number as number_of}
use Rattle.csr.proofs.Table.{same-but}
use Rattle.csr.proofs.number.Goals as goal

pub returns-in_default : goal.returns-in_default
returns-in_default c = same-but (23 ∷ 22 ∷ 21 ∷ 20 ∷ 19 ∷ 18 ∷ 17 ∷ 16 ∷ 15 ∷ 14 ∷ 13 ∷ 12 ∷ 11 ∷ 10 ∷ 9 ∷ 8 ∷ 7 ∷ 6 ∷ 5 ∷ 4 ∷ 3 ∷ 2 ∷ 1 ∷ 0 ∷ []) (λ d. 0x280) number_of refl refl c.args.t (assumption)
