-- `csr::first_follower` meets its contract: an arm's turn has this follower, every other none.
use Rattle.std.specs.Prelude.{None}
use mathlib.Core.List.{[], ◌∷◌}
use mathlib.Core.Path.{refl}
use Rattle.csr.specs.Csrs.{followers, turn_in}
use Rattle.csr.proofs.Table.{same-but}
use Rattle.csr.proofs.first_follower.Goals as goal

pub returns-in_default : goal.returns-in_default
returns-in_default c = same-but (8 ∷ 7 ∷ 6 ∷ 5 ∷ 4 ∷ 3 ∷ 2 ∷ 0 ∷ []) (λ d. None) (λ d. turn_in (followers d) 0) refl refl c.args.t (assumption)
