-- Truth values.
use mathlib.Core.Path.{◌≡◌, refl, sym, ◌∙◌}
use mathlib.Core.Bool.{Bool, true, false, not, ◌&&◌, false≢true}
use mathlib.Core.Logic.{◌⊎◌, inl, inr}
use borrow.Author.Tests.{not-true, not-false}

-- a truth value is one of the two
pub either : (b : Bool) → (b ≡ true) ⊎ (b ≡ false)
either true = inl refl
either false = inr refl

-- a test whose negation is true fails
pub fails : {b d : Bool} → b ≡ d → not b ≡ true → d ≡ false
fails {b} e n = sym e ∙ not-true b n

-- and one whose negation is false passes
pub passes : {b d : Bool} → b ≡ d → not b ≡ false → d ≡ true
passes {b} e n = sym e ∙ not-false b n

pub both : (a b : Bool) → (a && b) ≡ true → (a ≡ true) × (b ≡ true)
both true b t = (refl, t)
both false b t = absurd (false≢true t)

pub and_intro : (a b : Bool) → a ≡ true → b ≡ true → (a && b) ≡ true
and_intro a b x y = rw (x, y)
