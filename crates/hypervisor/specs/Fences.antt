-- The fence that is asked for, and the words of its entry (02, Req 01; 000, tables 4 and 5). Where the register width x decides, a comment gives
-- XLEN 32 first and XLEN 64 second.
use Rattle.std.specs.Prelude.{Bool, cond, ◌&&◌, ℕ, ◌+◌, ◌*◌, ◌%◌, ◌^◌, eqb, leb, ltb}
use Rattle.layout.specs.declared.xlen.Xlen.{Xlen}
use Rattle.layout.specs.declared.xlen.Xlen.TheVariants.{X32, X64}
use Rattle.fence.specs.declared.entry.Target.{Target}
use Rattle.fence.specs.declared.entry.Target.TheVariants.{AnyVmid, OneVmid, VmidAsid}
use Rattle.fence.specs.declared.entry.Pages.{Pages}
use Rattle.fence.specs.declared.entry.Pages.TheVariants.{All, Physical, Virtual}
use Rattle.fence.specs.declared.entry.Fence.{Fence}
use Rattle.hart.specs.WellMade.{fits_word}
use Rattle.hypervisor.specs.declared.fences.Asked.{Asked}

-- the greatest VMID: 127; 16,383
abbrev pub max_vmid : Xlen → ℕ
max_vmid X32 = 127
max_vmid X64 = 16383

-- the greatest ASID: 511; 65,535
abbrev pub max_asid : Xlen → ℕ
max_asid X32 = 511
max_asid X64 = 65535

-- types 1, 3, 5, 7 reach all pages: Order, Page_Number and Page_Count are zero
abbrev pub of_range : Asked → ℕ → ℕ
of_range a v = cond (eqb (a.kind % 2) 1) 0 v

-- Type at most 7, Order at most 127, VMID and ASID at most their greatest, of every type; and what is stored as Page_Number and Page_Count fits
-- a word
unfoldable pub good_fence : Xlen → Asked → Bool
good_fence x a =
    leb a.kind 7 && leb a.order 127 && leb a.vmid (max_vmid x) && leb a.asid (max_asid x) && fits_word x (of_range a a.number)
    && fits_word x (of_range a a.count)

-- types 0, 1 reach any VMID: it is zero
abbrev pub of_vmid : Asked → ℕ → ℕ
of_vmid a v = cond (ltb a.kind 2) 0 v

-- types 0 to 5 reach any ASID: it is zero
abbrev pub of_asid : Asked → ℕ → ℕ
of_asid a v = cond (ltb a.kind 6) 0 v

-- the fence with zero in what its type leaves out
abbrev pub stored_asked : Asked → Asked
stored_asked a =
    record {
      kind = a.kind;
      order = of_range a a.order;
      vmid = of_vmid a a.vmid;
      asid = of_asid a a.asid;
      number = of_range a a.number;
      count = of_range a a.count;
    }

-- Config: Pending 31, Type 27:24, Order 22:16, VMID 15:9, ASID 8:0; Pending 63, Type 59:56, Order 54:48, VMID 29:16, ASID 15:0
unfoldable pub config_of : Xlen → Asked → ℕ
config_of X32 a = 2 ^ 31 + a.kind * 2 ^ 24 + of_range a a.order * 2 ^ 16 + of_vmid a a.vmid * 2 ^ 9 + of_asid a a.asid
config_of X64 a = 2 ^ 63 + a.kind * 2 ^ 56 + of_range a a.order * 2 ^ 48 + of_vmid a a.vmid * 2 ^ 16 + of_asid a a.asid

-- whom it is to reach: types 0, 1 any VMID, 2 to 5 one, 6, 7 one VMID and ASID
abbrev pub target_asked : Asked → Target
target_asked a = cond (ltb a.kind 2) AnyVmid (cond (ltb a.kind 6) (OneVmid a.vmid) (VmidAsid a.vmid a.asid))

-- which pages: types 1, 3, 5, 7 all, 0, 2 guest physical pages in a range, 4, 6 guest virtual ones
abbrev pub pages_asked : Asked → Pages
pages_asked a =
    cond (eqb (a.kind % 2) 1) All
    (cond (ltb a.kind 4) (Physical (record { order = a.order; number = a.number; count = a.count }))
    (Virtual (record { order = a.order; number = a.number; count = a.count })))

-- the fence that is asked for
abbrev pub fence_asked : Asked → Fence
fence_asked a = record { target = target_asked a; pages = pages_asked a }
