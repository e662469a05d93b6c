-- `csr::has` meets its contract: the two upper halves stand at their turns, and either width has every other.
use mathlib.Core.List.{[], ◌∷◌}
use mathlib.Core.Bool.{true}
use mathlib.Core.Logic.{◌⊎◌, inl, inr}
use mathlib.Core.Path.{◌≡◌, refl}
use Prim.Native.Nat.{ℕ}
use Rattle.layout.specs.declared.xlen.Xlen.{Xlen}
use Rattle.layout.specs.declared.xlen.Xlen.TheVariants.{X32, X64}
use Rattle.csr.specs.Csrs.{Csr, has, at_turn}
use Rattle.csr.proofs.Table.{same-but}
use Rattle.csr.proofs.has.Goals as goal

-- either width has the register of another turn
other : (x : Xlen) (t : ℕ) → ((t ≡ 11) ⊎ (t ≡ 14) → ⊥) → true ≡ has x (at_turn t)
other X32 t n = refl
other X64 t n = same-but (14 ∷ 11 ∷ []) (λ (d : Csr). true) (has X64) refl refl t ((tt, λ e. n (inl e)), λ e. n (inr e))

pub returns-in_default : goal.returns-in_default
returns-in_default c = other c.args.x c.args.t (assumption)
