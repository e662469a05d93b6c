-- What steps say of the bits that their register writes dropped (02, Req 07).
use Rattle.std.specs.Prelude.{List, [], ◌∷◌, ◌++◌}
use Rattle.layout.specs.declared.xlen.Xlen.{Xlen}
use Rattle.hart.specs.Dropped.{Report, report_of}
use Rattle.page.specs.Registers.{csr_word}
use Rattle.world.specs.State.{State}
use Rattle.turns.specs.Steps.{Step, Write, Clear, Store, Remove, Done, after}

-- what one step says: (A) the bits that its write dropped, if any, and the others nothing
abbrev pub said : (xlen : Xlen) → Step → State → List Report
said xlen (Write c) s = report_of c (csr_word xlen s.page c) (after xlen (Write c) s).hart
said xlen (Clear c) s = []
said xlen (Store c) s = []
said xlen (Remove i) s = []
said xlen (Done e) s = []

-- what these steps say, one after the other
unfoldable pub reports : (xlen : Xlen) → List Step → State → List Report
reports xlen [] s = []
reports xlen (x ∷ xs) s = said xlen x s ++ reports xlen xs (after xlen x s)
