-- What a page of the register width x has marked: dirty registers and pending entries.
use Rattle.std.specs.Prelude.{Bool, true, false, List, [], ◌∷◌, ℕ}
use Rattle.layout.specs.declared.xlen.Xlen.{Xlen}
use Rattle.csr.specs.Csrs.{Csr, turn_order}
use Rattle.page.specs.Registers.{is_dirty}
use Rattle.page.specs.Entries.{every_entry, is_pending}

-- x before the others, if it is to be kept
abbrev pub kept : {A : Type 0} → Bool → A → List A → List A
kept true x xs = x ∷ xs
kept false x xs = xs

-- the elements that pass a test, in the order of the list
unfoldable pub those : {A : Type 0} → (A → Bool) → List A → List A
those f [] = []
those f (x ∷ xs) = kept (f x) x (those f xs)

-- the dirty registers that the width has, in turn order
unfoldable pub dirty_csrs : Xlen → List ℕ → List Csr
dirty_csrs x p = those (is_dirty p) (turn_order x)

-- the pending entries, ascending
unfoldable pub pending_entries : Xlen → List ℕ → List ℕ
pending_entries x p = those (is_pending x p) (every_entry x)
