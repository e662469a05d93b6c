-- `tickets::hold` meets its contract.
use Rattle.tickets.proofs.Samples.{samples-hold}
use Rattle.tickets.proofs.hold.Goals as goal

pub returns : goal.returns
returns c = samples-hold
