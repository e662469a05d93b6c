-- The text that the lister prints (01, "The lister"; 02, Req 06) of a page of the register width x. Each line ends with a newline.
use Rattle.std.specs.Prelude.{◌≡◌, cond, List, [], ◌∷◌, ◌++◌, ℕ, ◌*◌, ◌≤◌, eqb, length}
use Prim.Native.String.{String}
use Rattle.text.specs.Ascii.{ascii}
use Rattle.text.specs.Buffer.{filled}
use Rattle.text.specs.Numerals.{hex, decimal}
use Rattle.csr.specs.Csrs.{Csr, number}
use Rattle.layout.specs.declared.xlen.Xlen.{Xlen}
use Rattle.layout.specs.declared.xlen.Xlen.TheVariants.{X32, X64}
use Rattle.layout.specs.Width.{bytes}
use Rattle.layout.specs.Geometry.{page_size}
use Rattle.fence.specs.Entry.{type_of, order_of, vmid_of, asid_of, readable}
use Rattle.page.specs.Registers.{csr_word}
use Rattle.page.specs.Entries.{entry_word}
use Rattle.lister.specs.Marks.{dirty_csrs, pending_entries}

-- a line for each element
unfoldable pub lines : {A : Type 0} → (A → List ℕ) → List A → List ℕ
lines f [] = []
lines f (x ∷ xs) = f x ++ lines f xs

-- a register's line: CSR in three lower-case hex digits, word in two for each of its bytes: eight at XLEN 32, sixteen at 64
unfoldable pub csr_line : Xlen → List ℕ → Csr → List ℕ
csr_line x p c = ascii "csr " ++ hex 3 (number c) ++ ascii " " ++ hex (2 * bytes x) (csr_word x p c) ++ ascii "\n"

-- a name and a number in decimal
abbrev pub named : String → ℕ → List ℕ
named name n = ascii name ++ decimal n

-- the rest of a readable entry's line, from its words Config, Page_Number and Page_Count: ignored fields as they stand
unfoldable pub fields : Xlen → ℕ → ℕ → ℕ → List ℕ
fields x config number count =
    named " type " (type_of x config) ++ named " order " (order_of x config) ++ named " vmid " (vmid_of x config)
    ++ named " asid " (asid_of x config) ++ named " page " number ++ named " count " count ++ ascii "\n"

-- an entry's line; an unreadable entry prints `fence N all`
unfoldable pub fence_line : Xlen → List ℕ → ℕ → List ℕ
fence_line x p e =
    named "fence " e
    ++ cond (readable x (entry_word x p e 0) (entry_word x p e 2))
    (fields x (entry_word x p e 0) (entry_word x p e 1) (entry_word x p e 3)) (ascii " all\n")

-- the totals of both kinds of line
unfoldable pub totals : ℕ → ℕ → List ℕ
totals csrs fences = named "dirty " csrs ++ named " pending " fences ++ ascii "\n"

-- the lines of a page
unfoldable pub page_lines : Xlen → List ℕ → List ℕ
page_lines x p =
    lines (csr_line x p) (dirty_csrs x p)
    ++ lines (fence_line x p) (pending_entries x p)
    ++ totals (length (dirty_csrs x p)) (length (pending_entries x p))

-- the whole output for an image: its length alone tells the width, 8,192 bytes XLEN 32 and 12,288 bytes 64
unfoldable pub listing : List ℕ → List ℕ
listing image =
    cond (eqb (length image) (page_size (bytes X32))) (page_lines X32 image)
    (cond (eqb (length image) (page_size (bytes X64))) (page_lines X64 image) (ascii "bad length\n"))

-- no listing is longer
abbrev pub max_length : ℕ
max_length = 23000

-- d became d' as an image's listing was written from its start on, and r is how long the listing is
pub record Listed (image d d' : List ℕ) (r : ℕ) : Type 0 where
  pub bytes : d' ≡ filled d (listing image)
  pub size : r ≡ length (listing image)
  pub within : r ≤ max_length
