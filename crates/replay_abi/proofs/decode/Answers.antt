-- `replay_abi::decode` meets its contract: the record is read from the first words, and each other field from its word.
use Rattle.replay_abi.specs.Replays.{replay_of}
use Rattle.replay_abi.proofs.decode.Goals as goal

pub returns : goal.returns
unfolding replay_of
returns c = rw c.decode.ensures
