-- `abi::replays::can_feed` meets its contract: each test is the contract's, and the buffer is looked at only where the state is one.
use Rattle.checks.proofs.Truth.{fails, passes}
use Rattle.replay_abi.proofs.Replayed.{state-size}
use mathlib.Core.Path.{ap}
use mathlib.Core.Bool.{not}
use Rattle.replay_abi.proofs.can_feed.Goals as goal

pub returns-then-not-is_replay : goal.returns-then-not-is_replay
returns-then-not-is_replay c = rw (fails c.is_replay.ensures (ap not c.if-not-is_replay.true))

pub decode-requires : goal.decode-requires
decode-requires c = state-size _ (passes c.is_replay.ensures (ap not c.if-not-is_replay.false))

pub returns : goal.returns
returns c = rw (passes c.is_replay.ensures (ap not c.if-not-is_replay.false), c.is_lent.ensures, c.can_tell.ensures, c.is_ready.ensures, c.decode.ensures)
