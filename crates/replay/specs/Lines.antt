-- What a replay prints (02, Req 05 and 07). Each line ends with a newline.
use Rattle.std.specs.Prelude.{ℕ, suc, List, [], ◌∷◌, ◌++◌, ℤ, pos, negsuc}
use Rattle.text.specs.Ascii.{ascii}
use Rattle.text.specs.Numerals.{hex, decimal}
use Rattle.hart.specs.Dropped.{Report}
use Rattle.checks.specs.Codes.{Answer, code_of}

-- an integer in decimal
unfoldable pub signed : ℤ → List ℕ
signed (pos n) = decimal n
signed (negsuc n) = ascii "-" ++ decimal (suc n)

-- what one register write says: the CSR in three digits, the bits in sixteen
unfoldable pub pair : ℕ → ℕ → List ℕ
pair csr bits = ascii " " ++ hex 3 csr ++ ascii " " ++ hex 16 bits

-- what all register writes of a record say
unfoldable pub pairs : List Report → List ℕ
pairs [] = []
pairs (r ∷ rs) = pair r.csr r.bits ++ pairs rs

-- the start of a record's line: its number, its kind, the code, the steps and the slots removed by fences
unfoldable pub line_start : ℕ → ℕ → Answer → ℕ → ℕ → List ℕ
line_start n kind answer steps removed =
    decimal n ++ ascii " " ++ decimal kind ++ ascii " " ++ signed (code_of answer) ++ ascii " " ++ decimal steps ++ ascii " " ++ decimal removed

-- a record's line, with a pair for each report
unfoldable pub line : ℕ → ℕ → Answer → ℕ → ℕ → List Report → List ℕ
line n kind answer steps removed reports = line_start n kind answer steps removed ++ pairs reports ++ ascii "\n"

-- the reports that words tell, of each the CSR and then the bits; an odd last word tells none
unfoldable pub reports_told : List ℕ → List Report
reports_told [] = []
reports_told (w ∷ []) = []
reports_told (c ∷ b ∷ ws) = record { csr = c; bits = b } ∷ reports_told ws

-- a last record that is not whole
unfoldable pub cut_line : ℕ → List ℕ
cut_line n = decimal n ++ ascii " cut\n"

-- a header that is not good
unfoldable pub bad_line : ℕ → List ℕ
bad_line n = decimal n ++ ascii " bad\n"
