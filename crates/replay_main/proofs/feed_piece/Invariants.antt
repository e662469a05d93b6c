-- Between two parts the rest of the piece gives, to what is there, what the whole piece gives. The measure is how much of it is left.
use Rattle.std.proofs.Common.{length}
use Rattle.replay_main.proofs.Pieces.{Going}
use Rattle.replay_main.proofs.feed_piece.Given as goal

abbrev pub invariant-loop-rest : goal.invariant-loop-rest
invariant-loop-rest g l =
    let i = l.initial in
    Going i.replay i.memory i.table i.pending i.rest l.replay l.memory l.table l.pending l.rest

abbrev pub decreases-loop-rest : goal.decreases-loop-rest
decreases-loop-rest g l = length l.rest
