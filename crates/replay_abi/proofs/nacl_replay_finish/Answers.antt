-- `abi::replays::nacl_replay_finish` meets its contract: the state and the lengths are tested, and the last line is put.
use mathlib.Core.Path.{◌≡◌, ap}
use mathlib.Core.Bool.{true, not}
use lib.ListN.{length}
use Rattle.checks.proofs.Truth.{fails, passes}
use Rattle.replay_abi.specs.Replays.{state_length, can_finish}
use Rattle.replay_abi.proofs.Replayed.{finish-refused, finish-tests, finished-across}
use Rattle.replay_abi.proofs.nacl_replay_finish.Goals as goal

pub returns-then-not-can_finish : goal.returns-then-not-can_finish
returns-then-not-can_finish c = let s = c.args in
    finish-refused s.state.now s.out.now s.said.now (fails c.can_finish.ensures (ap not c.if-not-can_finish.true))

pub decode-requires : goal.decode-requires
decode-requires c =
    let good : let s = c.args in can_finish s.state.now s.out.now s.said.now ≡ true =
    passes c.can_finish.ensures (ap not c.if-not-can_finish.false) in
    let tests : let s = c.args in (length s.state.now ≡ state_length) × (length s.said.now ≡ 2) =
    let s = c.args in finish-tests s.state.now s.out.now s.said.now good in
    tests.0

pub tell-requires : goal.tell-requires
tell-requires c =
    let good : let s = c.args in can_finish s.state.now s.out.now s.said.now ≡ true =
    passes c.can_finish.ensures (ap not c.if-not-can_finish.false) in
    let tests : let s = c.args in (length s.state.now ≡ state_length) × (length s.said.now ≡ 2) =
    let s = c.args in finish-tests s.state.now s.out.now s.said.now good in
    tests.1

pub returns : goal.returns
returns c =
    let good : let s = c.args in can_finish s.state.now s.out.now s.said.now ≡ true =
    passes c.can_finish.ensures (ap not c.if-not-can_finish.false) in
    let s = c.args in
    finished-across s.state.now s.out.now s.said.now good (rw c.decode.ensures at c.finish-written.ensures) c.tell.ensures
