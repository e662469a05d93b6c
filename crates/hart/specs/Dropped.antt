-- Which bits a register write dropped, and the count of the writes that dropped some (02, Req 07).
use Rattle.std.specs.Prelude.{cond, List, [], ◌∷◌, ℕ, zero, suc, ◌+◌, eqb, ltb}
use Rattle.std.specs.Int.Bits.{bit_xor}
use Rattle.csr.specs.Csrs.{Csr, number}
use Rattle.hart.specs.declared.record.Hart.{Hart}
use Rattle.hart.specs.Record.{with_dropped}
use Rattle.hart.specs.Registers.{read}

-- what a write says: the CSR's number, and the bits
pub record Report : Type 0 where
  pub csr : ℕ
  pub bits : ℕ

-- the bits in which the word given differs from the register's reading in h, the record that the write left
abbrev pub dropped_bits : Csr → ℕ → Hart → ℕ
dropped_bits c v h = bit_xor v (read c h)

-- a report, if there are bits
abbrev pub report_with : ℕ → ℕ → List Report
report_with csr bits = cond (eqb bits 0) [] (record { csr = csr; bits = bits } ∷ [])

-- of the write of v to c that left h
unfoldable pub report_of : Csr → ℕ → Hart → List Report
report_of c v h = report_with (number c) (dropped_bits c v h)

-- reports as words: of each the CSR, then the bits
abbrev pub report_words : List Report → List ℕ
report_words [] = []
report_words (r ∷ rs) = r.csr ∷ r.bits ∷ report_words rs

-- the count stays at 2^32 - 1
abbrev pub most_dropped : ℕ
most_dropped = 0xFFFFFFFF

-- one write more
abbrev pub one_more : ℕ → ℕ
one_more n = cond (ltb n most_dropped) (n + 1) n

-- k writes more
unfoldable pub more_dropped : ℕ → ℕ → ℕ
more_dropped zero n = n
more_dropped (suc k) n = more_dropped k (one_more n)

-- h with k writes more counted
abbrev pub counted : ℕ → Hart → Hart
counted k h = with_dropped h (more_dropped k h.dropped)
