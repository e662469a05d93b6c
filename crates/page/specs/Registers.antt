-- A register's word and dirty bit in the page.
use Rattle.std.specs.Prelude.{◌≡◌, Bool, List, ℕ, length}
use Rattle.csr.specs.Csrs.{Csr, number}
use Rattle.layout.specs.declared.xlen.Xlen.{Xlen}
use Rattle.layout.specs.Width.{bytes}
use Rattle.layout.specs.Geometry.{csr_at, index_of, page_size}
use Rattle.layout.specs.Words.{word_at, put_word}
use Rattle.layout.specs.Dirty.{dirty, clear_dirty}

-- these bytes are a page: so many at the register width x
abbrev pub IsPage : Xlen → List ℕ → Type 0
IsPage x p = length p ≡ page_size (bytes x)

-- the register's index
abbrev pub index : Csr → ℕ
index c = index_of (number c)

-- the register's dirty bit is set
unfoldable pub is_dirty : List ℕ → Csr → Bool
is_dirty p c = dirty p (index c)

-- the page with the register's dirty bit cleared
unfoldable pub clear_mark : Csr → List ℕ → List ℕ
clear_mark c p = clear_dirty p (index c)

-- the register's word
unfoldable pub csr_word : Xlen → List ℕ → Csr → ℕ
csr_word x p c = word_at (bytes x) p (csr_at (bytes x) (index c))

-- the page with v in the register's word
unfoldable pub put_csr : Xlen → Csr → ℕ → List ℕ → List ℕ
put_csr x c v p = put_word (bytes x) p (csr_at (bytes x) (index c)) v
