-- `feed` meets its contract: between two steps what is there is what the part taken so far gives. The measure is how much of the part is left.
use Rattle.std.proofs.Common.{◌≡◌, ◌-◌, length}
use Rattle.replay.proofs.Feeding.{Running}
use Rattle.replay.proofs.feed.feed.Given as goal

abbrev pub invariant-loop-taken : goal.invariant-loop-taken
invariant-loop-taken l = Running l.initial.replay l.initial.memory l.initial.table l.initial.pending l.part l.initial.lines l.replay l.taken l.memory l.table l.pending l.lines
    × (length l.memory ≡ length l.initial.memory) × (length l.table ≡ length l.initial.table) × (length l.pending ≡ length l.initial.pending)

abbrev pub decreases-loop-taken : goal.decreases-loop-taken
decreases-loop-taken l = length l.part - l.taken
