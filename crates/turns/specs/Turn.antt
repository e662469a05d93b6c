-- Turns: what deals with a mark (01, "The 23 registers" and "Fence entries").
use Rattle.std.specs.Prelude.{cond, List, [], ◌∷◌, ℕ}
use Rattle.layout.specs.declared.xlen.Xlen.{Xlen}
use Rattle.csr.specs.Csrs.{Csr, followers}
use Rattle.hart.specs.Registers.{read, write}
use Rattle.fence.specs.Table.{remove_named}
use Rattle.page.specs.Registers.{is_dirty, clear_mark, csr_word, put_csr}
use Rattle.page.specs.Entries.{is_pending, fence_at, clear_entry}
use Rattle.world.specs.State.{State}
use Rattle.turns.specs.Marks.{Mark, Dirty, Pending}

-- (A) the register written from its word
unfoldable pub write_from_word : (xlen : Xlen) → Csr → State → State
write_from_word xlen c s = record { hart = write c (csr_word xlen s.page c) s.hart; page = s.page; table = s.table }

-- (B) its bit cleared
unfoldable pub clear_its_bit : Csr → State → State
clear_its_bit c s = record { hart = s.hart; page = clear_mark c s.page; table = s.table }

-- (C), and each store of (D): the register's reading stored in its word
unfoldable pub store_reading : (xlen : Xlen) → Csr → State → State
store_reading xlen c s = record { hart = s.hart; page = put_csr xlen c (read c s.hart) s.page; table = s.table }

-- (A) and (B), if dirty
unfoldable pub served : (xlen : Xlen) → Csr → State → State
served xlen c s = cond (is_dirty s.page c) (clear_its_bit c (write_from_word xlen c s)) s

-- (D) for each follower whose bit is clear
unfoldable pub store_clean : (xlen : Xlen) → List Csr → State → State
store_clean xlen [] s = s
store_clean xlen (f ∷ fs) s = store_clean xlen fs (cond (is_dirty s.page f) s (store_reading xlen f s))

-- a register's turn: (A) if dirty, write it from its word; (B) if dirty, clear its bit; (C) store its reading in its word; (D) for each
-- follower whose bit is clear, store the follower's reading in its word
unfoldable pub csr_turn : (xlen : Xlen) → Csr → State → State
csr_turn xlen c s = store_clean xlen (followers c) (store_reading xlen c (served xlen c s))

-- an entry's turn, if Pending: each named slot is removed, ascending, then Pending is cleared. If not Pending: nothing
unfoldable pub entry_turn : (xlen : Xlen) → ℕ → State → State
entry_turn xlen e s =
    cond (is_pending xlen s.page e)
    (record { hart = s.hart; page = clear_entry xlen e s.page; table = remove_named (fence_at xlen s.page e) s.table }) s

-- the turn of the register, or of the entry, whose mark it is
abbrev pub turn : (xlen : Xlen) → Mark → State → State
turn xlen (Dirty c) s = csr_turn xlen c s
turn xlen (Pending e) s = entry_turn xlen e s

-- the turns of these, one after the other
unfoldable pub turns : (xlen : Xlen) → List Mark → State → State
turns xlen [] s = s
turns xlen (m ∷ ms) s = turns xlen ms (turn xlen m s)
