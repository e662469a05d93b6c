-- Bits and fields of a number.
use Rattle.std.specs.Prelude.{ℕ, ◌+◌, ◌-◌, ◌*◌, ◌/◌, ◌%◌, ◌^◌}

-- the mask of the bits hi:lo
abbrev pub span : ℕ → ℕ → ℕ
span hi lo = 2 ^ (hi + 1) - 2 ^ lo

-- the number in the n bits of x from bit lo up
abbrev pub field : ℕ → ℕ → ℕ → ℕ
field x lo n = x / 2 ^ lo % 2 ^ n

-- bit k of x, 0 or 1
abbrev pub bit_of : ℕ → ℕ → ℕ
bit_of x k = x / 2 ^ k % 2

-- x with bit k cleared
abbrev pub clear_bit : ℕ → ℕ → ℕ
clear_bit x k = x - bit_of x k * 2 ^ k

-- x with bit k set
abbrev pub set_bit : ℕ → ℕ → ℕ
set_bit x k = clear_bit x k + 2 ^ k
