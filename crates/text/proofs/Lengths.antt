-- How long a number's text is.
use mathlib.Core.Path.{◌≡◌, refl}
use mathlib.Core.Bool.{Bool, true, false, cond}
use mathlib.Core.List.{List, [], ◌∷◌, ◌++◌}
use Prim.Native.Nat.{ℕ, zero, suc, ◌+◌, ◌/◌, ◌%◌, ◌≤◌}
use native.Mathlib.Omega.{arith}
use lib.Dec.{ltb}
use lib.ListN.{length, length-append}
use Rattle.text.specs.Buffer.{Wrote}
use Rattle.text.specs.Numerals.{glyph, hex, last_digits, decimal}

-- k hexadecimal digits
pub length-hex : (k n : ℕ) → length (hex k n) ≡ k
unfolding hex
length-hex zero n = refl
length-hex (suc k) n = simp length-append (omega (arith, length-hex k (n / 16)))

-- at most k decimal digits
pub length_digits : (k n : ℕ) → length (last_digits k n) ≤ k
unfolding last_digits
length_digits zero n = omega arith
length_digits (suc k) n = go (ltb n 10) (length_digits k (n / 10))
  where
    go : (b : Bool) → length (last_digits k (n / 10)) ≤ k → length (cond b (glyph n ∷ []) (last_digits k (n / 10) ++ (glyph (n % 10) ∷ []))) ≤ suc k
    go true h = omega arith
    go false h = simp length-append (omega arith)

-- a number has at most 20 decimal digits
pub length-decimal : (n : ℕ) → length (decimal n) ≤ 20
length-decimal n = length_digits 20 n

-- the place after hexadecimal digits
pub after-hex : {d e : List ℕ} {at r : ℕ} (k n : ℕ) → Wrote d at (hex k n) e r → r ≡ at + k
after-hex k n w = omega (arith, w.place, length-hex k n)

-- the place after decimal digits
pub after-digits : {d e : List ℕ} {at r : ℕ} (k n : ℕ) → Wrote d at (last_digits k n) e r → r ≤ at + k
after-digits k n w = omega (arith, w.place, length_digits k n)
