-- Truth values, case by case.
use mathlib.Core.Path.{◌≡◌, refl}
use mathlib.Core.Bool.{Bool, true, false, not, ◌&&◌, ◌||◌, true≢false, false≢true}
use mathlib.Core.Logic.{◌⊎◌, inl, inr}

-- it holds or it does not
pub either : (b : Bool) → (b ≡ true) ⊎ (b ≡ false)
either true = inl refl
either false = inr refl

-- where neither of two holds
pub neither : (a b : Bool) → (a || b) ≡ false → (a ≡ false) × (b ≡ false)
neither true b e = absurd (true≢false e)
neither false b e = (refl, e)

-- where the first of two holds and the other does not
pub first-only : (a b : Bool) → (a && not b) ≡ true → (a ≡ true) × (b ≡ false)
first-only true true e = absurd (false≢true e)
first-only true false e = (refl, refl)
first-only false b e = absurd (false≢true e)
