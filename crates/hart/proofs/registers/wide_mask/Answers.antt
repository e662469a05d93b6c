-- `hart::registers::wide_mask` meets its contract: an arm's turn has this mask, every other none.
use mathlib.Core.List.{[], ◌∷◌}
use mathlib.Core.Path.{refl}
use Rattle.layout.specs.declared.xlen.Xlen.TheVariants.{X64}
use Rattle.csr.proofs.Table.{same-but}
use Rattle.hart.specs.Registers.{mask_of}
use Rattle.hart.proofs.registers.wide_mask.Goals as goal

pub returns-in_default : goal.returns-in_default
returns-in_default c = same-but (23 ∷ 22 ∷ 21 ∷ 20 ∷ 16 ∷ 15 ∷ 13 ∷ 12 ∷ 10 ∷ 9 ∷ 5 ∷ 4 ∷ 3 ∷ 2 ∷ []) (λ d. 0) (mask_of X64) refl refl c.args.t c.in_default.in_default-own.rest
