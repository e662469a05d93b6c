-- 01's sample tickets T6, T7 and T8, at XLEN 64, and 02's rules at XLEN 32, each as one list under one claim.
use mathlib.Core.List.{List, [], ◌∷◌, map}
use mathlib.Core.Path.{◌≡◌, refl}
use Prim.Native.Nat.{ℕ, ◌*◌, ◌^◌}
use Rattle.layout.specs.declared.xlen.Xlen.TheVariants.{X32, X64}
use Rattle.csr.specs.Csrs.{Hstatus, Hgeie, Hideleg, Hvip, Hip, Vsip, Htimedeltah, Henvcfgh, Hgatp, Vsstatus, Vsatp}
use Rattle.hart.specs.declared.record.Hart.{Hart}
use Rattle.hart.specs.Record.{fresh, with_lines}
use Rattle.hart.specs.Registers.{read, write}

-- hvip written 0xFFFF
abbrev full : Hart
full = write Hvip 0xFFFF (fresh X64 0)

-- line 3 up, VGEIN 3, hgeie 0x08, hvip 0
abbrev line_up : Hart
line_up = write Hgeie 0x08 (write Hstatus (3 * 2 ^ 12) (with_lines (fresh X64 0) (2 ^ 3)))

-- what is read, and what 01 says
abbrev pub samples : List (ℕ × ℕ)
samples =
    -- T6
    (read Hvip full, 0x444) ∷ (read Vsip (write Hideleg 0x004 full), 0x002) ∷
    -- T7
    (read Hvip line_up, 0) ∷ (read Hip line_up, 0x1400) ∷
    -- T8
    (read Hgatp (write Hgatp 0x9000000000000007 (fresh X64 0)), 4) ∷ []

-- every reading is the one that 01 gives
pub samples-hold : map (λ s. s.0) samples ≡ map (λ s. s.1) samples
samples-hold = refl

-- what a register reads after a write in a fresh hart of XLEN 32, and what 02 says
abbrev pub samples32 : List (ℕ × ℕ)
samples32 =
    -- MODE 31, VMID 28:22, PPN 21:2
    (read Hgatp (write Hgatp 0xFFFFFFFF (fresh X32 0)), 0x9FFFFFFC) ∷
    -- every bit
    (read Vsatp (write Vsatp 0xFFFFFFFF (fresh X32 0)), 0xFFFFFFFF) ∷
    -- bit 31 takes the part of bit 63
    (read Vsstatus (write Vsstatus 0x6000 (fresh X32 0)), 0x80006000) ∷
    -- 0 when fresh
    (read Hstatus (fresh X32 0), 0) ∷ (read Vsstatus (fresh X32 0), 0) ∷
    -- the upper halves
    (read Htimedeltah (write Htimedeltah 0xFFFFFFFF (fresh X32 0)), 0xFFFFFFFF) ∷ (read Henvcfgh (write Henvcfgh 0xFFFFFFFF (fresh X32 0)), 0) ∷ []

pub samples32-hold : map (λ s. s.0) samples32 ≡ map (λ s. s.1) samples32
samples32-hold = refl
