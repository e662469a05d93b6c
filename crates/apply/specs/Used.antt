-- The used slots of a table.
use Rattle.std.specs.Prelude.{List, ℕ, zero, suc, ◌+◌}
use Rattle.layout.specs.Bits.{field}
use Rattle.fence.specs.Slots.{slot_count, slot_word}

-- how many of the first n slots are used: those whose word 0 has bit 63
unfoldable pub used_among : ℕ → List ℕ → ℕ
used_among zero t = 0
used_among (suc n) t = used_among n t + field (slot_word t n 0) 63 1

-- how many slots are used
abbrev pub used_count : List ℕ → ℕ
used_count t = used_among (slot_count t) t
