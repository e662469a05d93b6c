-- `abi::replays::is_replay` meets its contract: each test is the contract's.
use borrow.Author.Tests.{eq-eqb, ne_eqb}
use Rattle.replay_abi.specs.Replays.{state_length, is_replay}
use Rattle.replay_abi.proofs.is_replay.Goals as goal

pub returns-then-state-ne-STATE : goal.returns-then-state-ne-STATE
unfolding is_replay
returns-then-state-ne-STATE c = rw (ne_eqb _ state_length c.if-state-ne-STATE.true)

pub returns : goal.returns
unfolding is_replay
returns c = rw (eq-eqb _ state_length c.if-state-ne-STATE.false, c.is_well_formed.ensures.value)
