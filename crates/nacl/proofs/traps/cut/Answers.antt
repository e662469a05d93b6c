-- `nacl::traps::cut` meets its contract: each word is cut.
use Rattle.nacl.proofs.traps.cut.Goals as goal

pub returns : goal.returns
returns c = rw (← c.cut.ensures, ← c.cut-2.ensures, ← c.cut-3.ensures, ← c.cut-4.ensures)
