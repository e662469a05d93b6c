-- At the beginning the buffer is ready.
use Rattle.std.proofs.Common.{arith}
use Rattle.replay_main.proofs.Pieces.{ready-begun}
use Rattle.replay_main.proofs.replay_all.Goals as goal

pub pieces-init : goal.pieces-init
pieces-init g c = ready-begun _ _ c.start-replay.ensures.0 (omega arith)
