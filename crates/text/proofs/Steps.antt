-- A number's text is that of its upper digits, and the last digit after it.
use mathlib.Core.Path.{◌≡◌, refl}
use mathlib.Core.List.{List, [], ◌∷◌}
use Prim.Native.Nat.{ℕ, zero, suc, ◌-◌, ◌/◌, ◌%◌, ◌≤◌, ◌<◌}
use native.Mathlib.Numerals.{sub-one}
use borrow.Author.Tests.{lt-ltb, le-ltb}
use Rattle.text.specs.Buffer.{Wrote}
use Rattle.text.specs.Numerals.{glyph, hex, last_digits}
use Rattle.text.proofs.Writing.{wrote_nothing, ◌then◌}

-- no digits
pub no-hex : (d : List ℕ) (at n : ℕ) → Wrote d at (hex 0 n) d at
unfolding hex
no-hex d at n = wrote_nothing d at

pub no-digits : (d : List ℕ) (at n : ℕ) → Wrote d at (last_digits 0 n) d at
unfolding last_digits
no-digits d at n = wrote_nothing d at

module _ {d e f : List ℕ} {at m r b : ℕ} (n : ℕ) where
  pub hex-step : (k : ℕ) → (k ≡ 0 → ⊥) → Wrote d at (hex (k - 1) (n / 16)) e m
      → b ≡ glyph (n % 16) → Wrote e m (b ∷ []) f r → Wrote d at (hex k n) f r
  unfolding hex
  hex-step zero more upper last w = absurd (more refl)
  hex-step (suc k) more upper last w =
      (rw sub-one at upper) then (rw last at w)

  pub digits_step : (k : ℕ) → (k ≡ 0 → ⊥) → 10 ≤ n → Wrote d at (last_digits (k - 1) (n / 10)) e m
      → b ≡ glyph (n % 10) → Wrote e m (b ∷ []) f r → Wrote d at (last_digits k n) f r
  unfolding last_digits
  digits_step zero more large upper last w = absurd (more refl)
  digits_step (suc k) more large upper last w =
      rw (le-ltb n 10 large) ((rw sub-one at upper) then (rw last at w))

-- a number of one digit
pub one-digit : {d f : List ℕ} {at r b : ℕ} (n k : ℕ) → (k ≡ 0 → ⊥) → n < 10 → b ≡ glyph n → Wrote d at (b ∷ []) f r → Wrote d at (last_digits k n) f r
unfolding last_digits
one-digit n zero more small last w = absurd (more refl)
one-digit n (suc k) more small last w = rw (lt-ltb n 10 small) (rw last at w)
