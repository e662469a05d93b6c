-- The replay of a recording (02, Req 05): what a state and more bytes give, and what is printed of a whole recording.
use Rattle.std.specs.Prelude.{ℕ, zero, suc, ◌+◌, ◌*◌, ◌%◌, ◌^◌, Bool, true, false, cond, not, ◌||◌, List, [], ◌++◌, length, take, drop, replicate, ◌==◌, nat_lt}
use Rattle.layout.specs.declared.xlen.Xlen.TheVariants.{X64}
use Rattle.layout.specs.Geometry.{page_size}
use Rattle.hart.specs.Record.{fresh}
use Rattle.world.specs.World.{World, lent}
use Rattle.recording.specs.Format.{header_length, body_length, kind_of, good_header, record_length}
use Rattle.apply.specs.Effects.{memory_base, Effect, effect}
use Rattle.replay.specs.Lines.{line, cut_line, bad_line}

-- a replay at some place of a recording: the world, the number of the record that comes next, its bytes so far, and whether a bad header has
-- ended it
pub record State : Type 0 where
  pub world : World
  pub number : ℕ
  pub rest : List ℕ
  pub ended : Bool

-- what more bytes give: the state after them, and the lines printed
pub record Fed : Type 0 where
  pub state : State
  pub lines : List ℕ

-- a fresh hart with all features, 12,288 zero bytes at 0x80000000, and 64 empty slots
abbrev pub started : State
started =
    record {
      world = lent (fresh X64 15) memory_base (replicate (page_size 8) 0) (replicate (4 * 64) 0);
      number = 1;
      rest = [];
      ended = false;
    }

-- the number after n; numbers have 64 bits
abbrev pub following : ℕ → ℕ
following n = (n + 1) % 2 ^ 64

-- record n is not whole yet
abbrev pub waiting : ℕ → World → List ℕ → Fed
waiting n w bytes = record { state = record { world = w; number = n; rest = bytes; ended = false }; lines = [] }

-- the header of record n is bad
abbrev pub spoilt : ℕ → World → Fed
spoilt n w = record { state = record { world = w; number = n; rest = []; ended = true }; lines = bad_line n }

-- with a line before the others
abbrev pub after : List ℕ → Fed → Fed
after l f = record { state = f.state; lines = l ++ f.lines }

-- what the record that these bytes begin with does
abbrev pub effect_of : World → List ℕ → Effect
effect_of w bytes = effect (kind_of bytes) (take (body_length bytes) (drop header_length bytes)) w

-- its line
abbrev pub line_of : ℕ → World → List ℕ → List ℕ
line_of n w bytes = let e = effect_of w bytes in line n (kind_of bytes) e.answer e.steps e.removed e.reports

-- the records of these bytes one after the other, of which n is the first, at most k of them
unfoldable pub records : ℕ → ℕ → World → List ℕ → Fed
records zero n w bytes = waiting n w bytes
records (suc k) n w bytes =
    cond (nat_lt (length bytes) header_length) (waiting n w bytes)
    (cond (not (good_header bytes)) (spoilt n w)
    (cond (nat_lt (length bytes) (record_length bytes)) (waiting n w bytes)
    (after (line_of n w bytes) (records k (following n) (effect_of w bytes).world (drop (record_length bytes) bytes)))))

-- all of them; there are not more records than bytes
abbrev pub through : ℕ → World → List ℕ → Fed
through n w bytes = records (length bytes) n w bytes

-- a state fed with more bytes; after a bad header nothing is read
unfoldable pub fed : State → List ℕ → Fed
fed s more = cond s.ended (record { state = s; lines = [] }) (through s.number s.world (s.rest ++ more))

-- what is printed at the end: a rest is a record that was cut
unfoldable pub ending_of : ℕ → ℕ → Bool → List ℕ
ending_of n have ended = cond (ended || have == 0) [] (cut_line n)

abbrev pub ending : State → List ℕ
ending s = ending_of s.number (length s.rest) s.ended

-- what is printed of a whole recording
abbrev pub replayed : List ℕ → List ℕ
replayed bytes = let f = fed started bytes in f.lines ++ ending f.state
