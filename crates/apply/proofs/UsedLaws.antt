-- The used slots among the first of a table.
use mathlib.Core.Path.{◌≡◌}
use mathlib.Core.List.{List}
use Prim.Native.Nat.{ℕ, ◌+◌, ◌*◌, ◌/◌, ◌^◌, ◌≤◌, ◌<◌}
use native.Mathlib.Nat.{add-zero}
use native.Mathlib.Numerals.{add-one}
use native.Mathlib.Omega.{arith}
use lib.ListN.{get_or}
use Rattle.apply.specs.Used.{used_among}

-- what a word of 64 bits adds to the count is 0 or 1
pub top-le : (w : ℕ) → w < 2 ^ 64 → w / 2 ^ 63 ≤ 1
top-le w h = omega arith

-- one slot more: the quotient is bit 63 of its word 0
pub used_more : (i : ℕ) (t : List ℕ) → get_or t (4 * i) 0 < 2 ^ 64 → used_among i t + get_or t (4 * i) 0 / 2 ^ 63 ≡ used_among (i + 1) t
unfolding used_among
used_more i t h = rw (add-one, add-zero) (omega (arith, top-le (get_or t (4 * i) 0) h))
