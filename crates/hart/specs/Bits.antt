-- Parts of a word.
use Rattle.std.specs.Prelude.{ℕ, ◌-◌}
use Rattle.std.specs.Int.Bits.{bit_and, bit_or}
use Rattle.layout.specs.declared.xlen.Xlen.{Xlen}
use Rattle.layout.specs.declared.xlen.Xlen.TheVariants.{X32, X64}

-- all-ones: 32 or 64 ones
abbrev pub all_ones : Xlen → ℕ
all_ones X32 = 0xFFFFFFFF
all_ones X64 = 0xFFFFFFFFFFFFFFFF

-- the bits of mask from v, the other bits from old
abbrev pub take_bits : ℕ → ℕ → ℕ → ℕ
take_bits mask v old = bit_or (bit_and old (all_ones X64 - mask)) (bit_and v mask)
