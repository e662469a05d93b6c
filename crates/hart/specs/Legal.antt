-- What a stored register with a rule of its own takes from a value written to it (01, "The 23 registers"; 02, Req 06), in turn order.
-- `old` is what the register holds, `v` the value written.
use Rattle.std.specs.Prelude.{cond, ◌||◌, ℕ, ◌+◌, ◌*◌, ◌^◌, leb, eqb}
use Rattle.std.specs.Int.Bits.{bit_and}
use Rattle.layout.specs.Bits.{span, field}
use Rattle.layout.specs.declared.xlen.Xlen.{Xlen}
use Rattle.layout.specs.declared.xlen.Xlen.TheVariants.{X32, X64}

-- VGEIN, hstatus 17:12
abbrev pub vgein_of : ℕ → ℕ
vgein_of x = field x 12 6

-- VGEIN 17:12 taken if at most 7, else kept
abbrev pub vgein_taken : ℕ → ℕ → ℕ
vgein_taken old v = cond (leb (vgein_of v) 7) (vgein_of v) (vgein_of old)

-- MODE, bits 63:60 of hgatp and vsatp at XLEN 64
abbrev pub atp_mode : ℕ → ℕ
atp_mode x = field x 60 4

-- at XLEN 64 it is taken if 0 or 8, else kept
abbrev pub atp_mode_taken : ℕ → ℕ → ℕ
atp_mode_taken old v = cond (eqb (atp_mode v) 0 || eqb (atp_mode v) 8) (atp_mode v) (atp_mode old)

-- what VSXL of hstatus and UXL of vsstatus, bits 33:32, read: 2; there is neither at XLEN 32
abbrev pub xl_bits : Xlen → ℕ
xl_bits X32 = 0
xl_bits X64 = 2 * 2 ^ 32

-- bits of 0x7003C0; VGEIN; VSXL
abbrev pub legal_hstatus : Xlen → ℕ → ℕ → ℕ
legal_hstatus x old v = bit_and v 0x7003C0 + vgein_taken old v * 2 ^ 12 + xl_bits x

-- MODE; VMID 57:44; PPN 43:2; other bits 0. At XLEN 32 MODE 31, VMID 28:22, PPN 21:2, any mode bit accepted
abbrev pub legal_hgatp : Xlen → ℕ → ℕ → ℕ
legal_hgatp X32 old v = bit_and v (span 31 31 + span 28 22 + span 21 2)
legal_hgatp X64 old v = bit_and v (span 57 44 + span 43 2) + atp_mode_taken old v * 2 ^ 60

-- the highest bit of a word
abbrev pub top_bit : Xlen → ℕ
top_bit X32 = 31
top_bit X64 = 63

-- bits of 0xC6122; UXL; bit 63, at XLEN 32 bit 31, exactly if bits 14:13 are 3
abbrev pub legal_vsstatus : Xlen → ℕ → ℕ
legal_vsstatus x v = bit_and v 0xC6122 + xl_bits x + cond (eqb (field v 13 2) 3) 1 0 * 2 ^ top_bit x

-- vstvec's mode 1:0 taken if 0 or 1, else kept
abbrev pub vectoring_taken : ℕ → ℕ → ℕ
vectoring_taken old v = cond (leb (field v 0 2) 1) (field v 0 2) (field old 0 2)

-- bits 63:2, at XLEN 32 bits 31:2; mode
abbrev pub legal_vstvec : Xlen → ℕ → ℕ → ℕ
legal_vstvec x old v = bit_and v (span (top_bit x) 2) + vectoring_taken old v

-- MODE; bits 59:0. At XLEN 32 MODE 31, ASID 30:22, PPN 21:0, any mode bit accepted
abbrev pub legal_vsatp : Xlen → ℕ → ℕ → ℕ
legal_vsatp X32 old v = bit_and v (span 31 31 + span 30 22 + span 21 0)
legal_vsatp X64 old v = bit_and v (span 59 0) + atp_mode_taken old v * 2 ^ 60
