-- SRET (01, "SRET and lines") on the record, the page and the table, and what its register writes say (02, Req 07).
use Rattle.std.specs.Prelude.{Bool, cond, ◌&&◌, List, [], ◌∷◌, ◌++◌, map, ℕ, eqb}
use Rattle.layout.specs.declared.xlen.Xlen.{Xlen}
use Rattle.layout.specs.Width.{bytes}
use Rattle.layout.specs.Bits.{bit_of}
use Rattle.layout.specs.Geometry.{flags_at, swap_at}
use Rattle.layout.specs.Words.{word_at, put_word}
use Rattle.csr.specs.Csrs.{Hstatus, Hip, Vsip, turn_order}
use Rattle.hart.specs.Features.{has_feature}
use Rattle.hart.specs.Dropped.{Report, report_of}
use Rattle.hart.specs.Record.{with_general, returned}
use Rattle.hart.specs.Registers.{read, write}
use Rattle.page.specs.Entries.{every_entry}
use Rattle.world.specs.State.{State, state_from}
use Rattle.turns.specs.Marks.{Mark, Dirty, Pending}
use Rattle.turns.specs.Turn.{turns}
use Rattle.turns.specs.Steps.{steps}
use Rattle.turns.specs.Reports.{reports}
use Rattle.turns.specs.Clean.{store_clean_words}
use Rattle.sret.specs.Context.{general}

-- all registers if feature 0
abbrev pub csrs_offered : (xlen : Xlen) → ℕ → List Mark
csrs_offered xlen features = cond (has_feature features 0) (map Dirty (turn_order xlen)) []

-- all entries if feature 1
abbrev pub entries_offered : (xlen : Xlen) → ℕ → List Mark
entries_offered xlen features = cond (has_feature features 1) (map Pending (every_entry xlen)) []

-- all registers if feature 0; all entries if feature 1
unfoldable pub offered_done : (xlen : Xlen) → State → State
offered_done xlen s = turns xlen (csrs_offered xlen s.hart.features ++ entries_offered xlen s.hart.features) s

-- X1..X31 from the context (X0 stays 0)
unfoldable pub context_loaded : (xlen : Xlen) → State → State
context_loaded xlen s = state_from (with_general s.hart (general xlen s.page)) s.page s.table

-- feature 3 and flag bit 0
abbrev pub swaps : (xlen : Xlen) → ℕ → List ℕ → Bool
swaps xlen features page = has_feature features 3 && eqb (bit_of (word_at (bytes xlen) page flags_at) 0) 1

-- hstatus is written from the swap word, which gets the old reading
unfoldable pub swapped : (xlen : Xlen) → State → State
swapped xlen s =
    state_from (write Hstatus (word_at (bytes xlen) s.page (swap_at (bytes xlen))) s.hart)
    (put_word (bytes xlen) s.page (swap_at (bytes xlen)) (read Hstatus s.hart)) s.table

-- the swap, if feature 3 and flag bit 0
unfoldable pub autoswapped : (xlen : Xlen) → State → State
autoswapped xlen s = cond (swaps xlen s.hart.features s.page) (swapped xlen s) s

-- what the swap's write says, against the reading right after it
unfoldable pub swap_reports : (xlen : Xlen) → State → List Report
swap_reports xlen s =
    cond (swaps xlen s.hart.features s.page) (report_of Hstatus (word_at (bytes xlen) s.page (swap_at (bytes xlen))) (swapped xlen s).hart) []

-- V takes SPV, mode takes SPP, SPV 0, SIE takes SPIE, SPIE 1, SPP 0, pc takes sepc; then the clean words of hstatus, hip, vsip are stored
unfoldable pub resumed : (xlen : Xlen) → State → State
resumed xlen s = store_clean_words xlen (Hstatus ∷ Hip ∷ Vsip ∷ []) (state_from (returned s.hart) s.page s.table)

-- the whole of SRET
unfoldable pub sret : (xlen : Xlen) → State → State
sret xlen s = resumed xlen (autoswapped xlen (context_loaded xlen (offered_done xlen s)))

-- what its register writes say: those of the registers' turns, and then the swap
unfoldable pub sret_reports : (xlen : Xlen) → State → List Report
sret_reports xlen s =
    reports xlen (steps xlen (csrs_offered xlen s.hart.features) s) s ++ swap_reports xlen (context_loaded xlen (offered_done xlen s))
