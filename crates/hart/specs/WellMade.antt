-- "Well made" (01; 02, Req 02 and 06), as a test.
use Rattle.std.specs.Prelude.{Bool, true, ◌&&◌, List, [], ◌∷◌, ℕ, ◌%◌, ◌^◌, eqb, ltb, get_or, Option, Some, None}
use Rattle.std.specs.Int.Bits.{bit_and}
use Rattle.std.specs.List.{list_all}
use Rattle.layout.specs.declared.xlen.Xlen.{Xlen}
use Rattle.layout.specs.declared.xlen.Xlen.TheVariants.{X32, X64}
use Rattle.csr.specs.Csrs.{Csr}
use Rattle.hart.specs.declared.record.Hart.{Hart}
use Rattle.hart.specs.Registers.{written}
use Rattle.hart.specs.Stored.{stored, held, fresh_csrs}

-- a write of v to the register leaves exactly v there in a fresh hart
unfoldable pub leaves : Xlen → Csr → ℕ → Bool
leaves x c v = eqb (held c (written x c v (fresh_csrs x))) v

-- each register of the list holds what a write of that very value leaves there in a fresh hart
abbrev pub each_left : Xlen → List Csr → List ℕ → Bool
each_left x [] csrs = true
each_left x (c ∷ cs) csrs = leaves x c (held c csrs) && each_left x cs csrs

-- each stored register holds something that writes from a fresh hart can leave (`csrs-left` of proofs/WellMadeLaws.antt)
abbrev pub csrs_well_made : Hart → Bool
csrs_well_made h = each_left h.xlen stored h.csrs

-- a word of this width: at XLEN 32 bits above 31 are clear, as in every record word
abbrev pub fits_word : Xlen → ℕ → Bool
fits_word X32 v = ltb v (2 ^ 32)
fits_word X64 v = true

-- in each of these
abbrev pub each_fits : Xlen → List ℕ → Bool
each_fits x = list_all (fits_word x)

-- page address 4096-aligned, and it fits a word
abbrev pub shmem_well_made : Xlen → Option ℕ → Bool
shmem_well_made x None = true
shmem_well_made x (Some a) = eqb (a % 4096) 0 && fits_word x a

-- lines only in bits 7:1
abbrev pub lines_well_made : ℕ → Bool
lines_well_made lines = eqb (bit_and lines 0xFE) lines

-- the record's other words, which have to fit too
abbrev pub other_words : Hart → List ℕ
other_words h = h.pc ∷ h.sepc ∷ h.stvec ∷ h.scause ∷ h.stval ∷ h.x

-- every part is well made: also sepc bit 0 clear, stvec's two low bits 0, X0 is 0, and feature set under 16
abbrev pub well_made : Hart → Bool
well_made h =
    csrs_well_made h && lines_well_made h.lines && eqb (h.sepc % 2) 0 && eqb (h.stvec % 4) 0 && shmem_well_made h.xlen h.shmem
    && eqb (get_or h.x 0 0) 0 && ltb h.features 16 && each_fits h.xlen (other_words h)
