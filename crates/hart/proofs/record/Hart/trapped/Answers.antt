-- `hart::record::Hart::trapped` meets its contract.
use Rattle.std.proofs.Common.{rules}
use Rattle.hart.specs.Trap.{trapped}
use Rattle.hart.proofs.record.Hart.trapped.Goals as goal

pub returns : goal.returns
unfolding trapped
returns c = search rules
