-- `abi::replays::can_start` meets its contract: each test is the contract's.
use Rattle.replay_abi.proofs.can_start.Goals as goal

pub returns : goal.returns
returns c = rw c.is_lent.ensures
