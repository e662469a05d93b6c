-- The register width, XLEN.
use Rattle.std.specs.Prelude.{◌≡◌, ◌≢◌, ℕ, Result, MatchResult}
use Rattle.layout.specs.declared.xlen.Xlen.{Xlen}
use Rattle.layout.specs.declared.xlen.Xlen.TheVariants.{X32, X64}
use Rattle.layout.specs.declared.xlen.UnknownWidth.{UnknownWidth}

-- how many bytes a word has: XLEN / 8
abbrev pub bytes : Xlen → ℕ
bytes X32 = 4
bytes X64 = 8

-- how many bits
abbrev pub bits : Xlen → ℕ
bits X32 = 32
bits X64 = 64

-- the result is the width of n bits, or an error with n, which is no width's
abbrev pub IsWidthOf : ℕ → Result Xlen UnknownWidth → Type 0
IsWidthOf n r = MatchResult r (λ x. n ≡ bits x) (λ e. (e.0 ≡ n) × (n ≢ 32) × (n ≢ 64))
