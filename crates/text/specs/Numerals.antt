-- Numbers as ASCII text.
use Rattle.std.specs.Prelude.{cond, List, [], ◌∷◌, ◌++◌, ℕ, zero, suc, ◌+◌, ◌/◌, ◌%◌, ltb}

-- the ASCII code of a digit below 16: 0 to 9, then a to f
unfoldable pub glyph : ℕ → ℕ
glyph d = cond (ltb d 10) (48 + d) (87 + d)

-- the last k hexadecimal digits of n, the most significant first, with zeros in front
unfoldable pub hex : ℕ → ℕ → List ℕ
hex zero n = []
hex (suc k) n = hex k (n / 16) ++ (glyph (n % 16) ∷ [])

-- n in decimal, for n below 10^k: its digits, the most significant first, with no zeros in front
unfoldable pub last_digits : ℕ → ℕ → List ℕ
last_digits zero n = []
last_digits (suc k) n = cond (ltb n 10) (glyph n ∷ []) (last_digits k (n / 10) ++ (glyph (n % 10) ∷ []))

-- n in decimal; 20 digits are enough for every word
abbrev pub decimal : ℕ → List ℕ
decimal n = last_digits 20 n
