-- The slots of the translation table, four words each (01, "What the monitor lends"). Word 1 is the guest virtual page, word 2 the guest
-- physical page, word 3 the host page. Words after the last whole slot belong to none.
use Rattle.std.specs.Prelude.{Bool, List, ℕ, ◌+◌, ◌*◌, ◌/◌, eqb, length, get_or}
use Rattle.layout.specs.Bits.{field}

-- how many slots the table has
abbrev pub slot_count : List ℕ → ℕ
slot_count t = length t / 4

-- word k of slot i
abbrev pub slot_word : List ℕ → ℕ → ℕ → ℕ
slot_word t i k = get_or t (4 * i + k) 0

-- slot word 0: bit 63 used; bits 61:30 mean nothing
abbrev pub used : ℕ → Bool
used word0 = eqb (field word0 63 1) 1

-- slot word 0: bit 62 global
abbrev pub global : ℕ → Bool
global word0 = eqb (field word0 62 1) 1

-- slot word 0: 29:16 VMID
abbrev pub slot_vmid : ℕ → ℕ
slot_vmid word0 = field word0 16 14

-- slot word 0: 15:0 ASID
abbrev pub slot_asid : ℕ → ℕ
slot_asid word0 = field word0 0 16
