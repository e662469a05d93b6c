-- What the width decides, in the form in which the code has it.
use mathlib.Core.List.{List, [], ◌∷◌}
use mathlib.Core.Bool.{true}
use mathlib.Core.Path.{◌≡◌, refl}
use Prim.Native.Nat.{ℕ}
use Rattle.layout.specs.declared.xlen.Xlen.TheVariants.{X64}
use Rattle.hart.specs.WellMade.{each_fits}

-- at XLEN 64 every word fits
pub each-fits-64 : (l : List ℕ) → each_fits X64 l ≡ true
each-fits-64 [] = refl
each-fits-64 (v ∷ vs) = each-fits-64 vs
