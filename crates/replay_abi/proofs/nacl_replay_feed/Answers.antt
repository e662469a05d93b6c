-- `abi::replays::nacl_replay_feed` meets its contract: what is lent is tested, the state is read, fed and written back, and two words are said.
use mathlib.Core.Path.{◌≡◌, ap}
use mathlib.Core.Bool.{true, not}
use lib.ListN.{length}
use Rattle.checks.proofs.Truth.{fails, passes}
use Rattle.replay.specs.Code.{ready}
use Rattle.replay_abi.specs.Replays.{state_length, replay_of, can_feed}
use Rattle.replay_abi.proofs.Replayed.{feed-refused, feed-tests, fed-across}
use Rattle.replay_abi.proofs.nacl_replay_feed.Goals as goal

pub returns-then-not-can_feed : goal.returns-then-not-can_feed
returns-then-not-can_feed c = let s = c.args in
    feed-refused s.state.now s.memory.now s.table.now s.pending.now s.part.now s.out.now s.said.now (fails c.can_feed.ensures (ap not c.if-not-can_feed.true))

pub decode-requires : goal.decode-requires
decode-requires c =
    let good : let s = c.args in
    can_feed s.state.now s.memory.now s.table.now s.pending.now s.out.now s.said.now ≡ true =
    passes c.can_feed.ensures (ap not c.if-not-can_feed.false) in
    let tests : let s = c.args in
    (length s.state.now ≡ state_length) × (length s.said.now ≡ 2) × (ready (replay_of s.state.now) s.pending.now ≡ true) =
    let s = c.args in
    feed-tests s.state.now s.memory.now s.table.now s.pending.now s.part.now s.out.now s.said.now good in
    tests.0

pub store-requires : goal.store-requires
store-requires c =
    let good : let s = c.args in
    can_feed s.state.now s.memory.now s.table.now s.pending.now s.out.now s.said.now ≡ true =
    passes c.can_feed.ensures (ap not c.if-not-can_feed.false) in
    let tests : let s = c.args in
    (length s.state.now ≡ state_length) × (length s.said.now ≡ 2) × (ready (replay_of s.state.now) s.pending.now ≡ true) =
    let s = c.args in
    feed-tests s.state.now s.memory.now s.table.now s.pending.now s.part.now s.out.now s.said.now good in
    tests.0

pub tell-requires : goal.tell-requires
tell-requires c =
    let good : let s = c.args in
    can_feed s.state.now s.memory.now s.table.now s.pending.now s.out.now s.said.now ≡ true =
    passes c.can_feed.ensures (ap not c.if-not-can_feed.false) in
    let tests : let s = c.args in
    (length s.state.now ≡ state_length) × (length s.said.now ≡ 2) × (ready (replay_of s.state.now) s.pending.now ≡ true) =
    let s = c.args in
    feed-tests s.state.now s.memory.now s.table.now s.pending.now s.part.now s.out.now s.said.now good in
    tests.1

pub returns : goal.returns
returns c =
    let good : let s = c.args in
    can_feed s.state.now s.memory.now s.table.now s.pending.now s.out.now s.said.now ≡ true =
    passes c.can_feed.ensures (ap not c.if-not-can_feed.false) in
    let tests : let s = c.args in
    (length s.state.now ≡ state_length) × (length s.said.now ≡ 2) × (ready (replay_of s.state.now) s.pending.now ≡ true) =
    let s = c.args in
    feed-tests s.state.now s.memory.now s.table.now s.pending.now s.part.now s.out.now s.said.now good in
    let s = c.args in
    let f = c.feed-fed.ensures.0 (rw c.decode.ensures tests.2) in
    fed-across s.state.now s.memory.now s.table.now s.pending.now s.part.now s.out.now s.said.now good
    (rw c.decode.ensures at f) (c.store.ensures.1, c.store.ensures.2) c.tell.ensures
