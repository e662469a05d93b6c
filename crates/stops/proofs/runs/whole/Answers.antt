-- `stops::runs::whole` meets its contract: no call has as many steps as are allowed.
use native.Mathlib.Omega.{arith}
use Rattle.world.specs.World.{lent}
use Rattle.stops.proofs.Reports.{enough-is, enough-says}
use Rattle.stops.proofs.runs.whole.Goals as goal

pub returns : goal.returns
returns c = let w = lent c.args.h c.args.base c.args.memory.now c.args.table.now in record {
  whole_is = enough-is 0xFFFFFFFFFFFFFFFF c.args.eid c.args.fid c.args.a w (omega arith) c.run.ensures.stopped_is;
  wrote = rw (← enough-says 0xFFFFFFFFFFFFFFFF c.args.eid c.args.fid c.args.a w (omega arith)) c.run.ensures.wrote;
}
