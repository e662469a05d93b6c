-- The index of a CSR number: two bits of the number's top and its low byte.
use mathlib.Core.Path.{◌≡◌, sym, ap, ap₂, ◌∙◌}
use Prim.Native.Nat.{ℕ, ◌+◌, ◌*◌, ◌/◌, ◌%◌, ◌<◌}
use native.Mathlib.Omega.{arith}
use lib.Bits.{bit_and, bit_or, and_high, and_mask, or_shifted}
use Rattle.layout.specs.Geometry.{index_of}

-- the index by its two parts
pub index-parts : (x : ℕ) → index_of x ≡ x / 1024 % 4 * 256 + x % 256
index-parts x =
    let top : bit_and x 0xC00 / 4 ≡ x / 1024 % 4 * 256 = omega (arith, and_high x 2 10) in
    ap₂ bit_or top (and_mask x 8) ∙ or_shifted (x / 1024 % 4) 8 (x % 256) (omega arith)

-- there are 1,024 indexes
pub index-lt : (x : ℕ) → index_of x < 1024
index-lt x = omega (arith, index-parts x)

-- the upper part, taken from the index
index-top : (x : ℕ) → x < 0x1000 → index_of x / 256 ≡ x / 1024
index-top x h = rw (index-parts x) (omega arith)

-- the low byte, taken from it
index-low : (x : ℕ) → index_of x % 256 ≡ x % 256
index-low x = rw (index-parts x) (omega arith)

-- a number whose bits 9:8 are 2, from its other parts
joined : (x : ℕ) → x / 256 % 4 ≡ 2 → x / 1024 * 0x400 + 0x200 + x % 256 ≡ x
joined x e =
    let quarter : x / 1024 ≡ x / 256 / 4 = omega arith in
    rw quarter (omega arith)

-- a hypervisor or VS CSR number, back from its index
pub index-inverse : (x : ℕ) → x < 0x1000 → bit_and x 0x300 ≡ 0x200 → index_of x / 256 * 0x400 + 0x200 + index_of x % 256 ≡ x
index-inverse x h s = rw (index-top x h, index-low x) (joined x (omega (arith, and_high x 2 8)))

-- two such numbers with one index are one number
pub index-inj : (x y : ℕ) → x < 0x1000 → y < 0x1000 → bit_and x 0x300 ≡ 0x200 → bit_and y 0x300 ≡ 0x200 → index_of x ≡ index_of y → x ≡ y
index-inj x y hx hy sx sy e =
    sym (index-inverse x hx sx) ∙ ap (λ (i : ℕ). i / 256 * 0x400 + 0x200 + i % 256) e ∙ index-inverse y hy sy
