-- `nacl::calls::call` meets its contract: the numbers are cut, and the call is made with these.
use Rattle.world.specs.World.{lent}
use Rattle.nacl.proofs.Said.{call-tallied}
use Rattle.nacl.proofs.calls.call.Goals as goal

pub returns : goal.returns
returns c = let w = lent c.args.h c.args.base c.args.memory.now c.args.table.now in
    call-tallied c.tallied.ensures _ _ _ _ _ w (rw c.cut.ensures at c.called.ensures.call_served) (rw c.cut.ensures at c.called.ensures.wrote)
