-- Reading and writing the registers, in turn order (01, "The 23 registers"; 02, Req 06).
use Rattle.std.specs.Prelude.{Bool, cond, not, ◌&&◌, List, ℕ, ◌-◌, ◌*◌, ◌/◌, eqb, Option, Some, None}
use Rattle.std.specs.Int.Bits.{bit_and, bit_or}
use Rattle.layout.specs.Bits.{bit_of}
use Rattle.layout.specs.declared.xlen.Xlen.{Xlen}
use Rattle.layout.specs.declared.xlen.Xlen.TheVariants.{X32, X64}
use Rattle.csr.specs.Csrs.{Csr, Hstatus, Hgeip, Hgeie, Hideleg, Hvip, Hie, Hip, Vsie, Vsip, Hedeleg, Htimedelta, Htimedeltah, Hcounteren, Henvcfg, Henvcfgh, Htval, Htinst, Hgatp, Vsstatus, Vstvec, Vsscratch, Vsepc, Vscause, Vstval, Vsatp, at_turn, lookup}
use Rattle.hart.specs.declared.record.Hart.{Hart}
use Rattle.hart.specs.Bits.{all_ones, take_bits}
use Rattle.hart.specs.Legal.{vgein_of, legal_hstatus, legal_hgatp, legal_vsstatus, legal_vstvec, legal_vsatp}
use Rattle.hart.specs.Record.{with_csrs}
use Rattle.hart.specs.Stored.{held, hold}

-- VGEIN is not 0 and that line is up
abbrev pub line_up : ℕ → ℕ → Bool
line_up hstatus lines = not (eqb (vgein_of hstatus) 0) && eqb (bit_of lines (vgein_of hstatus)) 1

-- (lines AND hgeie) is not 0
abbrev pub line_enabled : ℕ → ℕ → Bool
line_enabled hgeie lines = not (eqb (bit_and lines hgeie) 0)

-- hip reads hvip, with bit 10 also 1 if VGEIN is not 0 and that line is up, and bit 12 1 if (lines AND hgeie) is not 0
abbrev pub hip_of : ℕ → ℕ → ℕ → ℕ → ℕ
hip_of hstatus hgeie hvip lines = bit_or (bit_or hvip (cond (line_up hstatus lines) 0x400 0)) (cond (line_enabled hgeie lines) 0x1000 0)

-- bits 1, 5, 9 are bits 2, 6, 10 of x where hideleg has that bit, else 0
abbrev pub delegated : ℕ → ℕ → ℕ
delegated hideleg x = bit_and (bit_and x hideleg) 0x444 / 2

-- what the register reads, of the stored registers and the lines
abbrev pub reading : Csr → List ℕ → ℕ → ℕ
reading Hstatus csrs lines = held Hstatus csrs
reading Hgeip csrs lines = lines
reading Hgeie csrs lines = held Hgeie csrs
reading Hideleg csrs lines = held Hideleg csrs
reading Hvip csrs lines = held Hvip csrs
reading Hie csrs lines = held Hie csrs
reading Hip csrs lines = hip_of (held Hstatus csrs) (held Hgeie csrs) (held Hvip csrs) lines
reading Vsie csrs lines = delegated (held Hideleg csrs) (held Hie csrs)
reading Vsip csrs lines = delegated (held Hideleg csrs) (hip_of (held Hstatus csrs) (held Hgeie csrs) (held Hvip csrs) lines)
reading Hedeleg csrs lines = held Hedeleg csrs
reading Htimedelta csrs lines = held Htimedelta csrs
reading Htimedeltah csrs lines = held Htimedeltah csrs
reading Hcounteren csrs lines = held Hcounteren csrs
reading Henvcfg csrs lines = held Henvcfg csrs
reading Henvcfgh csrs lines = 0
reading Htval csrs lines = held Htval csrs
reading Htinst csrs lines = held Htinst csrs
reading Hgatp csrs lines = held Hgatp csrs
reading Vsstatus csrs lines = held Vsstatus csrs
reading Vstvec csrs lines = held Vstvec csrs
reading Vsscratch csrs lines = held Vsscratch csrs
reading Vsepc csrs lines = held Vsepc csrs
reading Vscause csrs lines = held Vscause csrs
reading Vstval csrs lines = held Vstval csrs
reading Vsatp csrs lines = held Vsatp csrs

-- the bits that a register takes, where a mask is its whole rule; 0 where it has another. XLEN 64 has no htimedeltah: it takes none there
abbrev pub mask_of : Xlen → Csr → ℕ
mask_of x Hstatus = 0
mask_of x Hgeip = 0
mask_of x Hgeie = 0xFE
mask_of x Hideleg = 0x444
mask_of x Hvip = 0x444
mask_of x Hie = 0x1444
mask_of x Hip = 0
mask_of x Vsie = 0
mask_of x Vsip = 0
mask_of x Hedeleg = 0xB1FF
mask_of x Htimedelta = all_ones x
mask_of X32 Htimedeltah = all_ones X32
mask_of X64 Htimedeltah = 0
mask_of x Hcounteren = 7
mask_of x Henvcfg = 1
mask_of x Henvcfgh = 0
mask_of x Htval = all_ones x
mask_of x Htinst = all_ones x
mask_of x Hgatp = 0
mask_of x Vsstatus = 0
mask_of x Vstvec = 0
mask_of x Vsscratch = all_ones x
mask_of x Vsepc = all_ones x - 1
mask_of x Vscause = all_ones x
mask_of x Vstval = all_ones x
mask_of x Vsatp = 0

-- the stored registers with the bits of the register's mask taken from v
abbrev pub masked : Xlen → Csr → ℕ → List ℕ → List ℕ
masked x c v csrs = hold c (bit_and v (mask_of x c)) csrs

-- the stored registers after v is written to the register
abbrev pub written : Xlen → Csr → ℕ → List ℕ → List ℕ
written x Hstatus v csrs = hold Hstatus (legal_hstatus x (held Hstatus csrs) v) csrs
-- a write does nothing
written x Hgeip v csrs = csrs
written x Hgeie v csrs = masked x Hgeie v csrs
written x Hideleg v csrs = masked x Hideleg v csrs
written x Hvip v csrs = masked x Hvip v csrs
written x Hie v csrs = masked x Hie v csrs
-- copies bit 2 into hvip bit 2 and does nothing else
written x Hip v csrs = hold Hvip (take_bits 4 v (held Hvip csrs)) csrs
-- moves bits 1, 5, 9 to hie bits 2, 6, 10 where hideleg has that bit
written x Vsie v csrs = hold Hie (take_bits (bit_and (held Hideleg csrs) 0x444) (bit_and v 0x222 * 2) (held Hie csrs)) csrs
-- moves bit 1 to hvip bit 2 if hideleg bit 2 is set
written x Vsip v csrs = hold Hvip (take_bits (bit_and (held Hideleg csrs) 4) (bit_and v 2 * 2) (held Hvip csrs)) csrs
written x Hedeleg v csrs = masked x Hedeleg v csrs
written x Htimedelta v csrs = masked x Htimedelta v csrs
written x Htimedeltah v csrs = masked x Htimedeltah v csrs
written x Hcounteren v csrs = masked x Hcounteren v csrs
written x Henvcfg v csrs = masked x Henvcfg v csrs
-- a write does nothing
written x Henvcfgh v csrs = csrs
written x Htval v csrs = masked x Htval v csrs
written x Htinst v csrs = masked x Htinst v csrs
written x Hgatp v csrs = hold Hgatp (legal_hgatp x (held Hgatp csrs) v) csrs
written x Vsstatus v csrs = hold Vsstatus (legal_vsstatus x v) csrs
written x Vstvec v csrs = hold Vstvec (legal_vstvec x (held Vstvec csrs) v) csrs
written x Vsscratch v csrs = masked x Vsscratch v csrs
written x Vsepc v csrs = masked x Vsepc v csrs
written x Vscause v csrs = masked x Vscause v csrs
written x Vstval v csrs = masked x Vstval v csrs
written x Vsatp v csrs = hold Vsatp (legal_vsatp x (held Vsatp csrs) v) csrs

-- what the register reads in a hart
abbrev pub read : Csr → Hart → ℕ
read c h = reading c h.csrs h.lines

-- the hart after v is written to the register
abbrev pub write : Csr → ℕ → Hart → Hart
write c v h = with_csrs h (written h.xlen c v h.csrs)

-- the write of the register at a turn that was found; unchanged for an unimplemented number
abbrev pub write_found : Option ℕ → ℕ → Hart → Hart
write_found (Some t) v h = write (at_turn t) v h
write_found None v h = h

-- the write by number
abbrev pub write_number : ℕ → ℕ → Hart → Hart
write_number n v h = write_found (lookup h.xlen n) v h
