-- Where things stand in the page (01, "The page"). w is the word size in bytes, XLEN / 8.
use Rattle.std.specs.Prelude.{ℕ, ◌+◌, ◌*◌, ◌/◌}
use Rattle.std.specs.Int.Bits.{bit_and, bit_or}

-- SRET context, 0x000-0x1FF: word i, which for i from 1 to 31 is X<i>
abbrev pub context_at : ℕ → ℕ → ℕ
context_at w i = w * i

-- autoswap flags (bit 0 HSTATUS)
abbrev pub flags_at : ℕ
flags_at = 0x200

-- HSTATUS swap word
abbrev pub swap_at : ℕ → ℕ
swap_at w = 0x200 + w

-- fence entries, 0x800-0xF7F: entry e, four words
abbrev pub entry_at : ℕ → ℕ → ℕ
entry_at w e = 0x800 + 4 * w * e

-- how many fence entries there are
abbrev pub entry_count : ℕ → ℕ
entry_count w = 0x780 / (4 * w)

-- dirty bitmap, 0xF80-0xFFF: index i is byte i / 8, bit i mod 8 (H)
abbrev pub dirty_at : ℕ → ℕ
dirty_at i = 0xF80 + i / 8

-- CSR space, from 0x1000: word i of 1,024
abbrev pub csr_at : ℕ → ℕ → ℕ
csr_at w i = 0x1000 + w * i

-- how many bytes the page has
abbrev pub page_size : ℕ → ℕ
page_size w = 0x1000 + 1024 * w

-- index of CSR x: ((x AND 0xC00) >> 2) OR (x AND 0xFF)
abbrev pub index_of : ℕ → ℕ
index_of x = bit_or (bit_and x 0xC00 / 4) (bit_and x 0xFF)
