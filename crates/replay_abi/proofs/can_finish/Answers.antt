-- `abi::replays::can_finish` meets its contract: each test is the contract's.
use Rattle.replay_abi.proofs.can_finish.Goals as goal

pub returns : goal.returns
returns c = rw (c.is_replay.ensures, c.can_tell.ensures)
