-- `abi::claims::hold` meets its contract: each claim has its law.
use Rattle.abi.proofs.Stopped.{stops-across}
use Rattle.abi.proofs.Refusals.{refusals-across}
use Rattle.abi.proofs.claims.hold.Goals as goal

pub returns : goal.returns
returns c = record { stops = stops-across; refusals = refusals-across }
