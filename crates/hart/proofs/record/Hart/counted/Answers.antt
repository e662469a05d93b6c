-- `hart::record::Hart::counted` meets its contract: as many as there is room for.
use Rattle.std.proofs.Common.{arith}
use Rattle.hart.proofs.Counting.{more-min}
use Rattle.hart.proofs.record.Hart.counted.Goals as goal

pub returns : goal.returns
returns c = let e = more-min c.args.writes c.args.self.dropped (omega arith) in cc
