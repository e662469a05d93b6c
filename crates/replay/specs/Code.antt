-- The code's state, with what it is lent, as a state of the definitions; and what feeding gives.
use Rattle.std.specs.Prelude.{◌≡◌, ℕ, ◌+◌, ◌<◌, ◌≤◌, Bool, true, false, ◌&&◌, List, length, take, nat_le}
use Rattle.text.specs.Buffer.{Wrote}
use Rattle.layout.specs.declared.xlen.Xlen.TheVariants.{X64}
use Rattle.hart.specs.Record.{fresh}
use Rattle.world.specs.World.{lent}
use Rattle.recording.specs.Format.{longest}
use Rattle.recording.specs.Gathering.{partial}
use Rattle.apply.specs.Effects.{memory_base}
use Rattle.replay.specs.declared.Replay.{Replay}
use Rattle.replay.specs.declared.Taken.{Taken}
use Rattle.replay.specs.Replay.{State, fed}

-- the first `have` bytes of the buffer are the rest
abbrev pub state_of : Replay → List ℕ → List ℕ → List ℕ → State
state_of s memory table pending =
    record { world = lent s.hart memory_base memory table; number = s.number; rest = take s.have pending; ended = s.ended }

-- at the beginning: a fresh hart with all features, and no record yet
abbrev pub begun : Replay
begun = record { hart = fresh X64 15; number = 1; have = 0; ended = false }

-- the buffer has room for the longest record, and holds the beginning of one
unfoldable pub ready : Replay → List ℕ → Bool
ready s pending = nat_le longest (length pending) && partial pending s.have

-- no line is longer: 26 pairs at most
abbrev pub longest_line : ℕ
longest_line = 633

-- what feeding a part to a ready buffer gives: some of the part is taken, state and lines are those of that much, and all of it is taken but where
-- the lines' buffer has less room left than a longest line; how much then is the program's choice, as is what the buffer of the record's bytes holds
-- behind the rest
pub record FedOn (s : Replay) (memory table pending part out : List ℕ) (r : Taken) (memory' table' pending' out' : List ℕ) : Type 0 where
  pub within : r.taken ≤ length part
  pub state : state_of r.replay memory' table' pending' ≡ (fed (state_of s memory table pending) (take r.taken part)).state
  pub lines : Wrote out 0 (fed (state_of s memory table pending) (take r.taken part)).lines out' r.written
  pub room : r.written ≤ length out
  pub all : r.taken < length part → length out < r.written + longest_line
  pub ready : ready r.replay pending' ≡ true

-- nothing is taken and nothing changes
pub record Untouched (s : Replay) (m t p o : List ℕ) (r : Taken) (m' t' p' o' : List ℕ) : Type 0 where
  pub replay : r.replay ≡ s
  pub taken : r.taken ≡ 0
  pub written : r.written ≡ 0
  pub memory : m' ≡ m
  pub table : t' ≡ t
  pub pending : p' ≡ p
  pub out : o' ≡ o
