-- `hart::registers::mask` meets its contract: at XLEN 32 every mask but htimedeltah's is the lower half of that at XLEN 64.
use mathlib.Core.List.{[], ◌∷◌}
use mathlib.Core.Path.{refl}
use lib.Bits.{bit_and}
use Rattle.layout.specs.declared.xlen.Xlen.TheVariants.{X32, X64}
use Rattle.csr.proofs.Table.{same-but}
use Rattle.hart.specs.Registers.{mask_of}
use Rattle.hart.proofs.registers.mask.Goals as goal

pub returns-in_default : goal.returns-in_default
returns-in_default c = rw (c.in-X32.is, c.wide_mask.ensures)
    (same-but (11 ∷ []) (λ d. bit_and (mask_of X64 d) 0xFFFFFFFF) (mask_of X32) refl refl _ c.in_default.in_default-own.rest)
