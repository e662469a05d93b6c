-- `hart::record::Hart::returned` meets its contract.
use Rattle.hart.specs.Record.{returned}
use Rattle.hart.proofs.record.Hart.returned.Goals as goal

pub returns : goal.returns
unfolding returned
returns c = rw c.from.ensures
