-- The clean words that SRET and a line change store (01, "SRET and lines"), and a trap (02, Req 02).
use Rattle.std.specs.Prelude.{Bool, cond, ◌&&◌, List, [], ◌∷◌, ℕ}
use Rattle.layout.specs.declared.xlen.Xlen.{Xlen}
use Rattle.csr.specs.Csrs.{Csr, Hstatus, Htval, Htinst, Hip, Vsip}
use Rattle.hart.specs.Features.{has_feature}
use Rattle.page.specs.Registers.{is_dirty}
use Rattle.world.specs.State.{State}
use Rattle.turns.specs.Turn.{store_reading}

-- the register's word is not clean: its bit is set. Without feature 0 every word is clean
abbrev pub unclean : ℕ → List ℕ → Csr → Bool
unclean features p c = has_feature features 0 && is_dirty p c

-- the registers whose clean words a trap stores
abbrev pub trap_words : List Csr
trap_words = Hstatus ∷ Htval ∷ Htinst ∷ Hip ∷ Vsip ∷ []

-- of these registers each clean word gets its register's reading
unfoldable pub store_clean_words : (xlen : Xlen) → List Csr → State → State
store_clean_words xlen [] s = s
store_clean_words xlen (c ∷ cs) s = store_clean_words xlen cs (cond (unclean s.hart.features s.page c) s (store_reading xlen c s))
