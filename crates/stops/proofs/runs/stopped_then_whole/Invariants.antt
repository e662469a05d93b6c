-- `stops::runs::stopped_then_whole` meets its contract. The loop's invariant: the record, memory and the table are those after the first i
-- stops. Demand 3 says what the whole form leaves of them.
use mathlib.Core.Path.{◌≡◌}
use lib.ListN.{length, take}
use Rattle.world.specs.World.{lent}
use Rattle.stops.specs.Stops.{after_stops}
use Rattle.stops.proofs.runs.stopped_then_whole.Given as goal

abbrev pub invariant-loop-limit : goal.invariant-loop-limit
invariant-loop-limit l = (length l.memory ≡ length l.initial.memory) × (length l.table ≡ length l.initial.table)
    × (lent l.hart l.base l.memory l.table ≡ after_stops (take l.limit-index l.stops) l.eid l.fid l.a (lent l.initial.hart l.base l.initial.memory l.initial.table)) × (length l.unread ≡ 1)
