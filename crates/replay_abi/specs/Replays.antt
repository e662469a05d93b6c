-- The replay across the boundary. Its state is a block of 71 words: the hart record's block, the number of the record that comes next, how many bytes
-- of it are in the buffer, and whether a bad header has ended the replay.
use Rattle.std.specs.Prelude.{◌≡◌, Bool, true, false, cond, ◌&&◌, List, [], ◌∷◌, ◌++◌, ℕ, ◌+◌, eqb, leb, ℤ, pos, neg_ℤ, length, take, get_or, replicate}
use Rattle.text.specs.Buffer.{Wrote}
use Rattle.block.specs.Block.{block_length, flag_word, flag_of, is_flag, block_of, record_of, well_formed}
use Rattle.replay.specs.declared.Replay.{Replay}
use Rattle.replay.specs.declared.Taken.{Taken}
use Rattle.replay.specs.Replay.{ending_of}
use Rattle.replay.specs.Code.{begun, ready, longest_line, FedOn}

-- how many words a state has: 71
abbrev pub state_length : ℕ
state_length = block_length + 3

-- how many bytes memory has
abbrev pub memory_length : ℕ
memory_length = 12288

-- how many words the table has, four for each of 64 slots
abbrev pub table_length : ℕ
table_length = 256

-- word k of those after the record's block
abbrev pub state_word : List ℕ → ℕ → ℕ
state_word b k = get_or b (block_length + k) 0

-- the state that a block holds
unfoldable pub replay_of : List ℕ → Replay
replay_of b =
    record {
      hart = record_of (take block_length b);
      number = state_word b 0;
      have = state_word b 1;
      ended = flag_of (state_word b 2);
    }

-- the block of a state
unfoldable pub replay_block : Replay → List ℕ
replay_block s = block_of s.hart ++ (s.number ∷ s.have ∷ flag_word s.ended ∷ [])

-- a block that is some state's: its length, the record's words well formed, and the last word 0 or 1
unfoldable pub is_replay : List ℕ → Bool
is_replay b = eqb (length b) state_length && well_formed (take block_length b) && is_flag (state_word b 2)

-- memory and table have their lengths
abbrev pub is_lent : List ℕ → List ℕ → Bool
is_lent memory table = eqb (length memory) memory_length && eqb (length table) table_length

-- the longest line has room, and there are two words to say how much was taken and written
abbrev pub can_tell : List ℕ → List ℕ → Bool
can_tell out said = leb longest_line (length out) && eqb (length said) 2

-- the code: 0 where it can be done, else -1
abbrev pub done_code : Bool → ℤ
done_code can = cond can (pos 0) (neg_ℤ (pos 1))

-- a replay can start: every length is right
abbrev pub can_start : List ℕ → List ℕ → List ℕ → Bool
can_start state memory table = eqb (length state) state_length && is_lent memory table

-- a start: the state at the beginning and zeroes, or nothing changes
pub record StartCrosses (s m t : List ℕ) (r : ℤ) (s' m' t' : List ℕ) : Type 0 where
  pub code : r ≡ done_code (can_start s m t)
  pub state : s' ≡ cond (can_start s m t) (replay_block begun) s
  pub memory : m' ≡ cond (can_start s m t) (replicate memory_length 0) m
  pub table : t' ≡ cond (can_start s m t) (replicate table_length 0) t

-- a part can be fed: the state is one, every length is right, and the buffer is ready
abbrev pub can_feed : List ℕ → List ℕ → List ℕ → List ℕ → List ℕ → List ℕ → Bool
can_feed state memory table pending out said =
    is_replay state && is_lent memory table && can_tell out said && ready (replay_of state) pending

-- what is given back: the state, the bytes taken and the bytes written
abbrev pub taken_of : List ℕ → List ℕ → Taken
taken_of state said = record { replay = replay_of state; taken = get_or said 0 0; written = get_or said 1 0 }

-- a part was fed: what the replay's definitions give between the states of the two blocks, of which the second is some state's too
pub record FeedDone (s m t p part o s' m' t' p' o' w' : List ℕ) : Type 0 where
  pub fed : FedOn (replay_of s) m t p part o (taken_of s' w') m' t' p' o'
  pub state : is_replay s' ≡ true
  pub said : length w' ≡ 2

-- nothing changes
pub record FeedKeeps (s m t p o w s' m' t' p' o' w' : List ℕ) : Type 0 where
  pub state : s' ≡ s
  pub memory : m' ≡ m
  pub table : t' ≡ t
  pub pending : p' ≡ p
  pub out : o' ≡ o
  pub said : w' ≡ w

-- a part fed across the boundary
pub record FeedCrosses (s m t p part o w : List ℕ) (r : ℤ) (s' m' t' p' o' w' : List ℕ) : Type 0 where
  pub code : r ≡ done_code (can_feed s m t p o w)
  pub done : can_feed s m t p o w ≡ true → FeedDone s m t p part o s' m' t' p' o' w'
  pub refused : can_feed s m t p o w ≡ false → FeedKeeps s m t p o w s' m' t' p' o' w'

-- a replay can be finished: the state is one, and the other lengths are right
abbrev pub can_finish : List ℕ → List ℕ → List ℕ → Bool
can_finish state out said = is_replay state && can_tell out said

-- what is printed at the end
abbrev pub last_line : List ℕ → List ℕ
last_line state = let s = replay_of state in ending_of s.number s.have s.ended

-- it was written, and nothing was taken
pub record FinishDone (s o o' w' : List ℕ) : Type 0 where
  pub line : Wrote o 0 (last_line s) o' (length (last_line s))
  pub said : w' ≡ 0 ∷ length (last_line s) ∷ []

-- a finish: the state is only read
pub record FinishCrosses (s o w : List ℕ) (r : ℤ) (o' w' : List ℕ) : Type 0 where
  pub code : r ≡ done_code (can_finish s o w)
  pub done : can_finish s o w ≡ true → FinishDone s o o' w'
  pub refused : can_finish s o w ≡ false → (o' ≡ o) × (w' ≡ w)
