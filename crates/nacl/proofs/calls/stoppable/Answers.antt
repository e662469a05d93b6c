-- `nacl::calls::stoppable` meets its contract: each number is cut, and the run is made with these.
use Rattle.world.specs.World.{lent}
use Rattle.nacl.proofs.Said.{stop-tallied}
use Rattle.nacl.proofs.calls.stoppable.Goals as goal

pub returns : goal.returns
returns c = let w = lent c.args.h c.args.base c.args.memory.now c.args.table.now in
    rw (← c.cut.ensures, ← c.cut-2.ensures, ← c.cut-3.ensures)
    (stop-tallied c.tallied.ensures c.args.limit c.cut.result c.cut-2.result c.cut-3.result w c.stoppable.ensures.stopped_is c.stoppable.ensures.wrote)
