-- Bytes gathered until a record is whole. `r` is the buffer that they are put in, and the first `have` of it count.
use Rattle.std.specs.Prelude.{Bool, cond, ◌&&◌, ◌||◌, List, ℕ, ◌-◌, ltb}
use Rattle.recording.specs.Format.{header_length, good_header, record_length}

-- they are the beginning of a record that is not whole: less than a header, or a good header and less than that record
unfoldable pub partial : List ℕ → ℕ → Bool
partial r have = ltb have header_length || (good_header r && ltb have (record_length r))

-- how many bytes are wanted: a header's, and when it is there the record's
unfoldable pub goal_of : List ℕ → ℕ → ℕ
goal_of r have = cond (ltb have header_length) header_length (record_length r)

-- how many of the bytes available are taken towards the goal
unfoldable pub count_of : ℕ → ℕ → ℕ → ℕ
count_of have goal available = cond (ltb available (goal - have)) available (goal - have)
