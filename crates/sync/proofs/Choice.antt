-- What a test that came out one way chooses.
use mathlib.Core.Path.{◌≡◌, sym, ap, ◌∙◌}
use mathlib.Core.Bool.{Bool, true, false, cond}

module _ {A : Type 0} (x y : A) {b c : Bool} (e : b ≡ c) where
  pub first : b ≡ true → x ≡ cond c x y
  first t = ap (λ (d : Bool). cond d x y) (sym t ∙ e)

  pub second : b ≡ false → y ≡ cond c x y
  second f = ap (λ (d : Bool). cond d x y) (sym f ∙ e)
