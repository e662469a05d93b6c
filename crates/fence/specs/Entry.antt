-- A fence entry's four words, decoded (01, "Fence entries"; 02, Req 06; 000, tables 4 and 5). Where the register width x decides, a
-- comment gives XLEN 32 first and XLEN 64 second.
use Rattle.std.specs.Prelude.{Bool, cond, ◌&&◌, ℕ, ◌+◌, ◌%◌, ◌^◌, eqb, leb, ltb}
use Rattle.std.specs.Int.Bits.{bit_and}
use Rattle.layout.specs.declared.xlen.Xlen.{Xlen}
use Rattle.layout.specs.declared.xlen.Xlen.TheVariants.{X32, X64}
use Rattle.layout.specs.Bits.{span, field}
use Rattle.fence.specs.declared.entry.Fence.{Fence}
use Rattle.fence.specs.declared.entry.Target.{Target}
use Rattle.fence.specs.declared.entry.Target.TheVariants.{AnyVmid, OneVmid, VmidAsid}
use Rattle.fence.specs.declared.entry.Pages.{Pages}
use Rattle.fence.specs.declared.entry.Pages.TheVariants.{All, Physical, Virtual}

-- Pending: 31; 63
abbrev pub pending : Xlen → ℕ → Bool
pending X32 config = eqb (field config 31 1) 1
pending X64 config = eqb (field config 63 1) 1

-- Config with Pending cleared, the other bits as they are
abbrev pub clear_pending : Xlen → ℕ → ℕ
clear_pending X32 config = config % 2 ^ 31
clear_pending X64 config = config % 2 ^ 63

-- Type: 27:24; 59:56
abbrev pub type_of : Xlen → ℕ → ℕ
type_of X32 config = field config 24 4
type_of X64 config = field config 56 4

-- Order: 22:16; 54:48
abbrev pub order_of : Xlen → ℕ → ℕ
order_of X32 config = field config 16 7
order_of X64 config = field config 48 7

-- VMID: 15:9; 29:16
abbrev pub vmid_of : Xlen → ℕ → ℕ
vmid_of X32 config = field config 9 7
vmid_of X64 config = field config 16 14

-- ASID: 8:0; 15:0
abbrev pub asid_of : Xlen → ℕ → ℕ
asid_of X32 config = field config 0 9
asid_of X64 config = field config 0 16

-- the reserved bits: 30:28 and 23; 62:60, 55 and 47:30 (the last H)
abbrev pub reserved : Xlen → ℕ
reserved X32 = span 30 28 + span 23 23
reserved X64 = span 62 60 + span 55 55 + span 47 30

-- no reserved bit, word 2 zero, Type at most 7
abbrev pub readable : Xlen → ℕ → ℕ → Bool
readable x config word2 = eqb (bit_and config (reserved x)) 0 && eqb word2 0 && leb (type_of x config) 7

-- types 0, 1 reach any VMID, the rest one; types 6, 7 also need the ASID
abbrev pub target_of : Xlen → ℕ → Target
target_of x config =
    cond (ltb (type_of x config) 2) AnyVmid
    (cond (ltb (type_of x config) 6) (OneVmid (vmid_of x config)) (VmidAsid (vmid_of x config) (asid_of x config)))

-- odd types test no page; types 0, 2 test the guest physical page, 4, 6 the virtual one
abbrev pub pages_of : Xlen → ℕ → ℕ → ℕ → Pages
pages_of x config number count =
    cond (eqb (type_of x config % 2) 1) All
    (cond (ltb (type_of x config) 4) (Physical (record { order = order_of x config; number = number; count = count }))
    (Virtual (record { order = order_of x config; number = number; count = count })))

-- what an unreadable entry means: every used slot (H)
abbrev pub everything : Fence
everything = record { target = AnyVmid; pages = All }

-- the entry with the four words Config, Page_Number, word 2 and Page_Count
abbrev pub decoded : Xlen → ℕ → ℕ → ℕ → ℕ → Fence
decoded x config number word2 count =
    cond (readable x config word2) (record { target = target_of x config; pages = pages_of x config number count }) everything
