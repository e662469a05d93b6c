-- The general registers from the SRET context (01, "SRET and lines").
use Rattle.std.specs.Prelude.{List, [], ◌∷◌, ℕ, zero, suc, ◌+◌}
use Rattle.layout.specs.declared.xlen.Xlen.{Xlen}
use Rattle.layout.specs.Width.{bytes}
use Rattle.layout.specs.Geometry.{context_at}
use Rattle.layout.specs.Words.{word_at}

-- n words of the context, from word i on
unfoldable pub context_from : (xlen : Xlen) → ℕ → ℕ → List ℕ → List ℕ
context_from xlen i zero p = []
context_from xlen i (suc n) p = word_at (bytes xlen) p (context_at (bytes xlen) i) ∷ context_from xlen (i + 1) n p

-- X1..X31 from the context, and X0 0 (a well-made record has it so already)
abbrev pub general : (xlen : Xlen) → List ℕ → List ℕ
general xlen p = 0 ∷ context_from xlen 1 31 p
