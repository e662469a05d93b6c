-- For the contracts of inner functions only.
use Rattle.std.specs.Prelude.{◌≡◌, ℕ, ◌+◌, ◌<◌, ◌≤◌, Bool, true, false, ◌&&◌, List, length, take, ◌==◌}
use Rattle.hart.specs.declared.record.Hart.{Hart}
use Rattle.recording.specs.Format.{kind_of, whole_in, is_store}
use Rattle.text.specs.Buffer.{Put}
use Rattle.text.specs.declared.Buffer.{Buffer}
use Rattle.replay.specs.declared.Replay.{Replay}
use Rattle.replay.specs.Replay.{Fed, fed}
use Rattle.replay.specs.Code.{state_of, ready, longest_line}

-- what the code gives back and leaves is f: its state, and its lines put into the buffer
pub record Told (f : Fed) (b : Buffer ℕ) (r : Replay) (memory table pending : List ℕ) (b' : Buffer ℕ) : Type 0 where
  pub state : state_of r memory table pending ≡ f.state
  pub lines : Put b f.lines b'
  pub room : b'.at ≤ b.at + longest_line
  pub ready : ready r pending ≡ true

-- so much of a part is taken, and what the code gives back and leaves is what that much of it gives
pub record Stepped (s : Replay) (memory table pending part : List ℕ) (b : Buffer ℕ) (r : Replay) (taken : ℕ) (memory' table' pending' : List ℕ) (b' : Buffer ℕ) : Type 0 where
  pub some : 0 < taken
  pub within : taken ≤ length part
  pub told : Told (fed (state_of s memory table pending) (take taken part)) b r memory' table' pending' b'

-- between two records, with nothing in the buffer
abbrev pub between : Hart → ℕ → Replay
between h n = record { hart = h; number = n; have = 0; ended = false }

-- a memory write or a slot comes next and is whole in the part
unfoldable pub store_ahead : ℕ → List ℕ → Bool
store_ahead have part = have == 0 && (whole_in part && is_store (kind_of part))
