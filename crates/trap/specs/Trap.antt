-- The trap back from the guest (02, Req 02), of the page.
use Rattle.layout.specs.declared.xlen.Xlen.{Xlen}
use Rattle.world.specs.State.{State}
use Rattle.turns.specs.Clean.{trap_words, store_clean_words}
use Rattle.sret.specs.Sret.{autoswapped}

-- with feature 3 and the flag set, hstatus is swapped as in SRET; then the clean words of hstatus, htval, htinst, hip and vsip are stored
unfoldable pub trap_stored : Xlen → State → State
trap_stored xlen s = store_clean_words xlen trap_words (autoswapped xlen s)
