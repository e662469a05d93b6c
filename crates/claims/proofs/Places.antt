-- Where the parts of a page stand to each other, at either width.
use Prim.Native.Nat.{ℕ, ◌+◌, ◌≤◌, ◌<◌}
use native.Mathlib.Omega.{arith}
use Rattle.layout.specs.declared.xlen.Xlen.{Xlen}
use Rattle.layout.specs.declared.xlen.Xlen.TheVariants.{X32, X64}
use Rattle.layout.specs.Width.{bytes}
use Rattle.layout.specs.Geometry.{swap_at, entry_at, entry_count}

-- a word has few bytes
pub bytes-few : (x : Xlen) → bytes x ≤ 8
bytes-few X32 = omega arith
bytes-few X64 = omega arith

-- the swap word ends before the entries
pub swap_ends : (x : Xlen) → swap_at (bytes x) + bytes x ≤ 0x800
swap_ends X32 = omega arith
swap_ends X64 = omega arith

-- an entry's Config ends before the bitmap
pub config-ends : (x : Xlen) (e : ℕ) → e < entry_count (bytes x) → entry_at (bytes x) e + bytes x ≤ 0xF80
config-ends X32 e b = omega arith
config-ends X64 e b = omega arith
