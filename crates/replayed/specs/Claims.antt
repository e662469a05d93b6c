-- What holds of every recording, whatever its bytes and however they are cut (02, Req 05 and 07). Each claim names a wrong replay that it shuts out; `Claims`,
-- at the end, is all of them.
use Rattle.std.specs.Prelude.{◌≡◌, true, false, cond, not, ◌&&◌, ◌||◌, List, [], ◌∷◌, ◌++◌, map, ◌⊎◌, ℕ, zero, suc, ◌+◌, ◌*◌, ◌≤◌, ◌<◌, eqb, leb, ltb, pos, neg_ℤ, length, get_or, drop, replicate, Ok, Err}
use Rattle.text.specs.Ascii.{ascii}
use Rattle.layout.specs.Geometry.{page_size}
use Rattle.fence.specs.Slots.{slot_count, slot_word, used}
use Rattle.world.specs.World.{World, width}
use Rattle.checks.specs.Fids.{fid_csr, fid_fence, fid_sret}
use Rattle.checks.specs.declared.answer.Success.TheVariants.{Value}
use Rattle.checks.specs.declared.answer.Refusal.TheVariants.{InvalidAddress}
use Rattle.checks.specs.Codes.{code_of, accepted}
use Rattle.checks.specs.Checks.{cut, check1}
use Rattle.stops.specs.Sync.{sync_total}
use Rattle.claims.specs.Events.{OfTypes}
use Rattle.recording.specs.Format.{header_length, good_length, good_header, record_length, body_word}
use Rattle.apply.specs.Effects.{Effect, effect}
use Rattle.replay.specs.Lines.{line, cut_line, bad_line}
use Rattle.replay.specs.Replay.{State, Fed, started, following, after, effect_of, line_of, fed, ending, replayed}
use Rattle.replay.specs.Code.{state_of, begun}

-- parts one after the other
abbrev pub joined : List (List ℕ) → List ℕ
joined [] = []
joined (p ∷ ps) = p ++ joined ps

-- a state fed with them
abbrev pub fed_all : State → List (List ℕ) → Fed
fed_all s [] = record { state = s; lines = [] }
fed_all s (p ∷ ps) = after (fed s p).lines (fed_all (fed s p).state ps)

-- State and lines are those of the whole recording, whatever the cuts. Shut out: a replay that forgets what it has of a record between two parts.
abbrev pub CutsDoNotCount : Type 0
CutsDoNotCount = (parts : List (List ℕ)) → fed_all started parts ≡ fed started (joined parts)

-- With what is printed at the end they are what is printed of the whole. Shut out: an end that looks at the last part alone.
abbrev pub PrintedInParts : Type 0
PrintedInParts = (parts : List (List ℕ)) → let f = fed_all started parts in f.lines ++ ending f.state ≡ replayed (joined parts)

-- What `replay::start::start` gives, with memory and a table of the right lengths, is the beginning. Shut out: a first record with number 0.
abbrev pub BeginsFresh : Type 0
BeginsFresh = (pending : List ℕ) → state_of begun (replicate (page_size 8) 0) (replicate (4 * 64) 0) pending ≡ started

-- a replay between two records, or at the beginning
pub record Between (s : State) : Type 0 where
  pub on : s.ended ≡ false
  pub none : s.rest ≡ []

-- after a record with this effect
abbrev pub past : State → Effect → State
past s e = record { world = e.world; number = following s.number; rest = []; ended = false }

-- A whole record is applied and its line printed, and what follows goes on from there. Shut out: a record left out, or applied twice.
abbrev pub RecordByRecord : Type 0
RecordByRecord =
    (s : State) (r more : List ℕ) → Between s → good_header r ≡ true → length r ≡ record_length r
    → fed s (r ++ more) ≡ after (line_of s.number s.world r) (fed (past s (effect_of s.world r)) more)

-- A recording that ends with a whole record, or an empty one, prints nothing at its end. Shut out: `N cut` after every recording.
abbrev pub WholeEndsQuietly : Type 0
WholeEndsQuietly = (s : State) → Between s → ending s ≡ []

-- A record that is not whole changes nothing and prints nothing until the end, which says that it was cut. Shut out: a cut record that is applied.
pub record Waits (s : State) (r : List ℕ) : Type 0 where
  pub world : (fed s r).state.world ≡ s.world
  pub number : (fed s r).state.number ≡ s.number
  pub rest : (fed s r).state.rest ≡ r
  pub ended : (fed s r).state.ended ≡ false
  pub lines : (fed s r).lines ≡ []
  pub end : 0 < length r → ending (fed s r).state ≡ cut_line s.number

abbrev pub CutIsNotApplied : Type 0
CutIsNotApplied =
    (s : State) (r : List ℕ) → Between s → (header_length ≤ length r → (good_header r ≡ true) × (length r < record_length r)) → Waits s r

-- A bad header ends the replay at its sixth byte, and whatever follows is not read. Shut out: a length that is judged when the body is there.
pub record Ends (s : State) (r more : List ℕ) : Type 0 where
  pub world : (fed s (r ++ more)).state.world ≡ s.world
  pub number : (fed s (r ++ more)).state.number ≡ s.number
  pub ended : (fed s (r ++ more)).state.ended ≡ true
  pub lines : (fed s (r ++ more)).lines ≡ bad_line s.number
  pub end : ending (fed s (r ++ more)).state ≡ []

abbrev pub BadEnds : Type 0
BadEnds = (s : State) (r more : List ℕ) → Between s → length r ≡ header_length → good_header r ≡ false → Ends s r more

-- A refused record changes nothing, makes no step, removes no slot and has no report. Shut out: bytes written up to memory's end; steps of a refused
-- call; a refused call that is counted as a write.
pub record Unchanged (w : World) (e : Effect) : Type 0 where
  pub world : e.world ≡ w
  pub steps : e.steps ≡ 0
  pub removed : e.removed ≡ 0
  pub reports : e.reports ≡ []

abbrev pub RefusalsChangeNothing : Type 0
RefusalsChangeNothing = (kind : ℕ) (b : List ℕ) (w : World) → accepted (effect kind b w).answer ≡ false → Unchanged w (effect kind b w)

-- the FID of a call's body, as the hart's width has it
abbrev pub fid_in : List ℕ → World → ℕ
fid_in b w = cut (width w) (body_word b 1)

-- Only FID 2 and 3 have steps, those of the unbroken call, and only FID 3 and 4 remove slots. Shut out: SRET's turns printed as steps; no steps at
-- all; a slot placed over another one counted.
pub record Counts (kind : ℕ) (b : List ℕ) (w : World) : Type 0 where
  pub total : eqb kind 1 && (eqb (fid_in b w) fid_csr || eqb (fid_in b w) fid_fence) ≡ true → accepted (effect kind b w).answer ≡ true
      → (effect kind b w).steps ≡ sync_total (fid_in b w) (cut (width w) (body_word b 2)) w
  pub steps : eqb kind 1 && (eqb (fid_in b w) fid_csr || eqb (fid_in b w) fid_fence) ≡ false → (effect kind b w).steps ≡ 0
  pub removed : eqb kind 1 && (eqb (fid_in b w) fid_fence || eqb (fid_in b w) fid_sret) ≡ false → (effect kind b w).removed ≡ 0

abbrev pub OnlyTheseCount : Type 0
OnlyTheseCount = (kind : ℕ) (b : List ℕ) (w : World) → Counts kind b w

-- how many of the first n slots are used in the one table and not in the other
unfoldable pub gone_among : ℕ → List ℕ → List ℕ → ℕ
gone_among zero t t' = 0
gone_among (suc n) t t' = gone_among n t t' + cond (used (slot_word t n 0) && not (used (slot_word t' n 0))) 1 0

-- The slots removed by a call are those that it left unused. Shut out: a slot counted twice.
abbrev pub RemovedAreGone : Type 0
RemovedAreGone =
    (b : List ℕ) (w : World) → (effect 1 b w).removed ≡ gone_among (slot_count w.table) w.table (effect 1 b w).world.table

-- A write is accepted exactly if it ends within memory; then its bytes are there, and nothing else changes. Shut out: a write that is cut at
-- memory's end, or goes round past 2^64.
pub record Lands (at : ℕ) (bytes : List ℕ) (w : World) (e : Effect) : Type 0 where
  pub within : accepted e.answer ≡ leb (at + length bytes) (length w.memory)
  pub code : accepted e.answer ≡ false → code_of e.answer ≡ neg_ℤ (pos 5)
  pub size : length e.world.memory ≡ length w.memory
  pub written : accepted e.answer ≡ true → (k : ℕ) → k < length bytes → get_or e.world.memory (at + k) 0 ≡ get_or bytes k 0
  pub others : accepted e.answer ≡ true → (k : ℕ) → (k < at) ⊎ (at + length bytes ≤ k) → get_or e.world.memory k 0 ≡ get_or w.memory k 0
  pub hart : e.world.hart ≡ w.hart
  pub table : e.world.table ≡ w.table

abbrev pub WritesLand : Type 0
WritesLand = (b : List ℕ) (w : World) → Lands (body_word b 0) (drop 8 b) w (effect 2 b w)

-- A slot is placed exactly if there is one of that index; then its four words are there, and nothing else changes. Shut out: index 64.
pub record Placed (i : ℕ) (b : List ℕ) (w : World) (e : Effect) : Type 0 where
  pub within : accepted e.answer ≡ ltb i (slot_count w.table)
  pub code : accepted e.answer ≡ false → code_of e.answer ≡ neg_ℤ (pos 5)
  pub size : length e.world.table ≡ length w.table
  pub words : accepted e.answer ≡ true → (k : ℕ) → k < 4 → slot_word e.world.table i k ≡ body_word b (1 + k)
  pub others : accepted e.answer ≡ true → (j k : ℕ) → k < 4 → (i ≡ j → ⊥) → slot_word e.world.table j k ≡ slot_word w.table j k
  pub hart : e.world.hart ≡ w.hart
  pub memory : e.world.memory ≡ w.memory

abbrev pub SlotsPlaced : Type 0
SlotsPlaced = (b : List ℕ) (w : World) → Placed (body_word b 0) b w (effect 4 b w)

-- what the types of the code say of a world holds, and check 1 passes
pub record Sound (w : World) : Type 0 where
  pub types : OfTypes w
  pub made : check1 w ≡ true

-- A replay finds the record, memory and table well made at every record. Shut out: a recording after which every call is answered -1.
abbrev pub StaysSound : Type 0
StaysSound = (bytes : List ℕ) → ((j : ℕ) → get_or bytes j 0 < 256) → Sound (fed started bytes).state.world

-- So no line says -1. Shut out: -1 for a write past memory's end.
abbrev pub NoneFails : Type 0
NoneFails = (kind : ℕ) (b : List ℕ) (w : World) → Sound w → code_of (effect kind b w).answer ≡ neg_ℤ (pos 1) → ⊥

-- 02's sample lines, and the limits of a write's length
pub record Samples : Type 0 where
  pub done : line 2 1 (Ok (Value 0)) 3 0 [] ≡ ascii "2 1 0 3 0\n"
  pub refused : line 3 2 (Err InvalidAddress) 0 0 [] ≡ ascii "3 2 -5 0 0\n"
  pub dropped : line 7 1 (Ok (Value 0)) 3 0 (record { csr = 0x680; bits = 0x9000000000000003 } ∷ []) ≡ ascii "7 1 0 3 0 680 9000000000000003\n"
  pub last : cut_line 4 ≡ ascii "4 cut\n"
  pub wrong : bad_line 12 ≡ ascii "12 bad\n"
  pub limits : map (good_length 2) (8 ∷ 9 ∷ 4104 ∷ 4105 ∷ []) ≡ false ∷ true ∷ true ∷ false ∷ []
  pub lengths : map (λ k. good_length k 40) (0 ∷ 1 ∷ 2 ∷ 3 ∷ 4 ∷ 5 ∷ 6 ∷ []) ≡ false ∷ true ∷ true ∷ false ∷ true ∷ true ∷ false ∷ []

-- all of them
pub record Claims : Type 0 where
  pub cuts : CutsDoNotCount
  pub printed : PrintedInParts
  pub begins : BeginsFresh
  pub records : RecordByRecord
  pub quiet : WholeEndsQuietly
  pub cut : CutIsNotApplied
  pub bad : BadEnds
  pub refusals : RefusalsChangeNothing
  pub counts : OnlyTheseCount
  pub removed : RemovedAreGone
  pub writes : WritesLand
  pub slots : SlotsPlaced
  pub sound : StaysSound
  pub none-fails : NoneFails
  pub samples : Samples
