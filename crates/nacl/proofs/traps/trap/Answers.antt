-- `nacl::traps::trap` meets its contract: the words are cut, and the trap is taken with these.
use Rattle.nacl.proofs.traps.trap.Goals as goal

pub returns : goal.returns
returns c = rw (← c.cut.ensures) c.trap_cut.ensures
