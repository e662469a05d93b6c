-- `csr::places::turn_at` meets its contract: each of the table's places is computed.
use mathlib.Core.Path.{◌≡◌}
use Rattle.csr.specs.declared.places.TheConstants.{TURN_AT}
use Rattle.csr.specs.Inner.{place}
use Rattle.csr.proofs.PlaceLaws.{in_row, table-place}
use Rattle.csr.proofs.places.turn_at.Goals as goal

pub returns : goal.returns
returns c = let place : in_row TURN_AT c.args.i ≡ place c.args.i = table-place c.args.i c.requires in place
