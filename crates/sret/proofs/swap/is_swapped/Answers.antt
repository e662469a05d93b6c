-- `sret::swap::is_swapped` meets its contract.
use mathlib.Core.Path.{sym, ap, ap₂, ◌∙◌}
use mathlib.Core.Bool.{Bool, ◌&&◌}
use Prim.Native.Nat.{ℕ, ◌%◌}
use native.Mathlib.Nat.{div-one}
use lib.Dec.{eqb}
use Rattle.sret.proofs.swap.is_swapped.Goals as goal

pub returns : goal.returns
returns c = ap₂ (λ (a b : Bool). a && b) c.has.ensures (ap (λ (w : ℕ). eqb (w % 2) 1) (c.word_at.ensures ∙ sym (div-one _)))
