-- ASCII text.
use mathlib.Core.List as list
use Rattle.std.specs.Prelude.{List, ℕ}
use Prim.Native.Char.{code}
use Prim.Native.String.{String, [], ◌∷◌}

-- no bytes
abbrev none : List ℕ
none = list.[]

-- a byte before others
abbrev before : List ℕ → ℕ → List ℕ
before bs b = list.◌∷◌ b bs

-- the bytes of an ASCII text
abbrev pub ascii : String → List ℕ
ascii [] = none
ascii (c ∷ s) = before (ascii s) (code c)
