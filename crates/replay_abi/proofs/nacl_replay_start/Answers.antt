-- `abi::replays::nacl_replay_start` meets its contract: the lengths are tested, and the state of the beginning is stored.
use mathlib.Core.Path.{◌≡◌, ap, ◌∙◌}
use mathlib.Core.Bool.{true, not}
use Prim.Native.Nat.{ℕ}
use lib.ListN.{length, replicate}
use Rattle.checks.proofs.Truth.{fails, passes}
use Rattle.replay_abi.specs.Replays.{state_length, memory_length, table_length, replay_block, can_start}
use Rattle.replay_abi.proofs.Replayed.{start-sizes}
use Rattle.replay_abi.proofs.nacl_replay_start.Goals as goal

pub returns-then-not-can_start : goal.returns-then-not-can_start
returns-then-not-can_start c = let n = fails c.can_start.ensures (ap not c.if-not-can_start.true) in
    record { code = rw n; state = rw n; memory = rw n; table = rw n }

pub store-requires : goal.store-requires
store-requires c =
    let good : let s = c.args in can_start s.state.now s.memory.now s.table.now ≡ true =
    passes c.can_start.ensures (ap not c.if-not-can_start.false) in
    let sizes : let s = c.args in
    (length s.state.now ≡ state_length) × (length s.memory.now ≡ memory_length) × (length s.table.now ≡ table_length) =
    let s = c.args in start-sizes s.state.now s.memory.now s.table.now good in
    sizes.0

pub returns : goal.returns
returns c =
    let good : let s = c.args in can_start s.state.now s.memory.now s.table.now ≡ true =
    passes c.can_start.ensures (ap not c.if-not-can_start.false) in
    let sizes : let s = c.args in
    (length s.state.now ≡ state_length) × (length s.memory.now ≡ memory_length) × (length s.table.now ≡ table_length) =
    let s = c.args in start-sizes s.state.now s.memory.now s.table.now good in
    let y = good in
    let z = sizes in
    record {
      code = rw y;
      state = rw y (c.store.ensures.0 ∙ ap replay_block c.start.ensures.0);
      memory = rw y (c.start.ensures.1 ∙ ap (λ (n : ℕ). replicate n 0) z.1);
      table = rw y (c.start.ensures.2 ∙ ap (λ (n : ℕ). replicate n 0) z.2);
    }
