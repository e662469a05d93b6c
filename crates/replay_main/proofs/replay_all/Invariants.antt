-- The buffer for a record that is not whole stays ready.
use Rattle.std.proofs.Common.{◌≡◌, true}
use Rattle.replay.specs.Code.{ready}
use Rattle.replay_main.proofs.replay_all.Given as goal

abbrev pub invariant-pieces : goal.invariant-pieces
invariant-pieces g l = ready l.replay l.pending ≡ true
