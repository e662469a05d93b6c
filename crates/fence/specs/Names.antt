-- Which slots of the translation table an entry names (01, "Fence entries" and "What the monitor lends").
use Rattle.std.specs.Prelude.{Bool, true, not, ◌&&◌, ℕ, ◌+◌, ◌/◌, ◌^◌, eqb, leb, ltb}
use Rattle.fence.specs.declared.entry.Fence.{Fence}
use Rattle.fence.specs.declared.entry.Target.{Target}
use Rattle.fence.specs.declared.entry.Target.TheVariants.{AnyVmid, OneVmid, VmidAsid}
use Rattle.fence.specs.declared.entry.Pages.{Pages}
use Rattle.fence.specs.declared.entry.Pages.TheVariants.{All, Physical, Virtual}
use Rattle.fence.specs.declared.entry.Range.{Range}
use Rattle.fence.specs.Slots.{used, global, slot_vmid, slot_asid}

-- page p is in range exactly if Page_Number <= p div 2^Order < Page_Number + Page_Count
abbrev pub in_range : Range → ℕ → Bool
in_range r p = leb r.number (p / 2 ^ r.order) && ltb (p / 2 ^ r.order) (r.number + r.count)

-- the slot is among those aimed at: VMID, and for VMID and ASID also the ASID, sparing global slots
abbrev pub aimed_at : Target → ℕ → Bool
aimed_at AnyVmid word0 = true
aimed_at (OneVmid vmid) word0 = eqb (slot_vmid word0) vmid
aimed_at (VmidAsid vmid asid) word0 = eqb (slot_vmid word0) vmid && eqb (slot_asid word0) asid && not (global word0)

-- the slot's guest virtual page (word 1) or guest physical page (word 2) is in range; words are page numbers, each address / 4096
abbrev pub covers : Pages → ℕ → ℕ → Bool
covers All word1 word2 = true
covers (Physical r) word1 word2 = in_range r word2
covers (Virtual r) word1 word2 = in_range r word1

-- the entry names the slot with these words: it is used and passes all the tests
abbrev pub names : Fence → ℕ → ℕ → ℕ → Bool
names f word0 word1 word2 = used word0 && aimed_at f.target word0 && covers f.pages word1 word2
