-- What holds across the boundary for every list of stops and of every refusal, whatever is lent: claims without a condition, about the exported
-- functions as their contracts have them (Crossings.antt). Each says which wrong library it shuts out.
use Rattle.std.specs.Prelude.{◌≡◌, false, cond, List, [], ◌∷◌, ◌++◌, ◌≢◌, ℕ, eqb, ℤ, pos, length, set}
use Rattle.hart.specs.declared.trap.Trap.{Trap}
use Rattle.checks.specs.Checks.{cut}
use Rattle.stops.specs.Stops.{AfterStop}
use Rattle.nacl.specs.Calls.{with_count, stop_counted}
use Rattle.block.specs.Block.{count_at, well_formed}
use Rattle.abi.specs.Answers.{answer_length, reports_at}
use Rattle.abi.specs.Crossings.{Lent, lent_block, world_of, width_of, cross_left, CallCrosses, StopCrosses, LineCrosses, TrapCrosses}

-- what a run of nacl_sync_stoppable leaves: the numbers count as the width of the record that it gets cuts them (StopCrosses)
unfoldable pub stop_left : ℕ → ℕ → ℕ → ℕ → Lent → Lent
stop_left n eid fid a l = let x = width_of l in cross_left (stop_counted n (cut x eid) (cut x fid) (cut x a)) l

-- it runs once for each N; each run gets the record's block, memory and table that the one before left
unfoldable pub lent_after_stops : List ℕ → ℕ → ℕ → ℕ → Lent → Lent
lent_after_stops [] eid fid a l = l
lent_after_stops (n ∷ ns) eid fid a l = lent_after_stops ns eid fid a (stop_left n eid fid a l)

-- what is lent after a stop, beside what was at the start: the block is well formed as before; if it is not, nothing changed; the record in it
-- has the width that it had; and it, memory and the table are as 01 says of a stop, of the numbers as that width cuts them, but for the count
pub record LentAfterStop (fid a : ℕ) (l₀ l : Lent) : Type 0 where
  pub formed : well_formed l.hart ≡ well_formed l₀.hart
  pub garbage : well_formed l₀.hart ≡ false → l ≡ l₀
  pub width : width_of l ≡ width_of l₀
  pub stopped : AfterStop (cut (width_of l₀) fid) (cut (width_of l₀) a) (world_of l₀) (with_count (world_of l₀).hart.dropped (world_of l))

-- what is lent, with 0 in the count's word: `ButCount` of nacl/specs/Calls.antt on words, since a block may hold no record
abbrev pub but_count : Lent → Lent
but_count l = lent_block (set l.hart count_at 0) l.base l.memory l.table

-- the same but for how many reports there are
abbrev pub but_reports : List ℕ → List ℕ
but_reports block = set block reports_at 0

-- what a crossing gives: the code, what is lent and the answer's block afterwards
pub record Given : Type 0 where
  pub code : ℤ
  pub lent : Lent
  pub answer : List ℕ

-- two are the same but for the count and the reports
pub record SameButCount (g h : Given) : Type 0 where
  pub code : g.code ≡ h.code
  pub lent : but_count g.lent ≡ but_count h.lent
  pub answer : but_reports g.answer ≡ but_reports h.answer

-- what nacl_call gives from l and what it gives from l₀ are the same but for the count and the reports: the code, the words of the record's
-- block, memory and table, and the words of the answer's block
abbrev pub SameCall : ℕ → ℕ → ℕ → ℕ → ℕ → Lent → Lent → Type 0
SameCall eid fid a0 a1 a2 l₀ l =
    (block out out' out₀ out₀' : List ℕ) (g g₀ : Given) → CallCrosses eid fid a0 a1 a2 l block out g.code g.lent g.answer out'
    → CallCrosses eid fid a0 a1 a2 l₀ block out₀ g₀.code g₀.lent g₀.answer out₀' → SameButCount g g₀

-- demand 3 of what is linked, for one list: after each stop the above, and nacl_call after them all gives what it gives alone from the start, but
-- for the count and the reports (02, Req 07)
pub record RestartableAcross (ns : List ℕ) (eid fid a a1 a2 : ℕ) (l : Lent) : Type 0 where
  pub after-each : (ms ks : List ℕ) → ns ≡ ms ++ ks → LentAfterStop fid a l (lent_after_stops ms eid fid a l)
  pub same_end : SameCall eid fid a a1 a2 l (lent_after_stops ns eid fid a l)

-- the claim about stops: every list, EID, FID (any but 2 and 3 is refused by every run), parameter, block, memory and table. Shut out: a
-- library that clears a mark, is stopped and never does its work; one that leaves a block in which nacl_call finds another record, or none
unfoldable pub StopsAcross : Type 0
StopsAcross = (ns : List ℕ) (eid fid a a1 a2 : ℕ) (l : Lent) → RestartableAcross ns eid fid a a1 a2 l

-- what a refusal tells: value 0, not resumed, 0 steps, not finished, no report; an answer's block of another length is left alone
abbrev pub refusal_told : List ℕ → List ℕ
refusal_told block = cond (eqb (length block) answer_length) (0 ∷ 0 ∷ 0 ∷ 0 ∷ 0 ∷ []) block

-- what is lent is as it was, word for word, the buffer too, and the answer's block tells a refusal
pub record Untouched (l : Lent) (block out : List ℕ) (l' : Lent) (block' out' : List ℕ) : Type 0 where
  pub lent : l' ≡ l
  pub told : block' ≡ refusal_told block
  pub unsaid : out' ≡ out

-- a function with this contract leaves all untouched whenever its code is not 0
abbrev pub KeepsWhenRefused : (Lent → List ℕ → List ℕ → ℤ → Lent → List ℕ → List ℕ → Type 0) → Type 0
KeepsWhenRefused Crossing =
    (l : Lent) (block out block' out' : List ℕ) (r : ℤ) (l' : Lent) → Crossing l block out r l' block' out' → r ≢ pos 0 → Untouched l block out l' block' out'

-- the claim about refusals: of any call, any run of the stoppable form, any line change and any trap. Shut out: a library that refuses and has
-- removed a slot, stored the lines, turned V off or written its own form of a block that it could not read; one that reports a refused run's step.
-- A line change has no buffer
pub record RefusalsAcross : Type 0 where
  pub call : (eid fid a0 a1 a2 : ℕ) → KeepsWhenRefused (CallCrosses eid fid a0 a1 a2)
  pub stop : (n eid fid a : ℕ) → KeepsWhenRefused (StopCrosses n eid fid a)
  pub line : (lines : ℕ) (l : Lent) (block block' : List ℕ) (r : ℤ) (l' : Lent) → LineCrosses lines l block r l' block' → r ≢ pos 0 → Untouched l block [] l' block' []
  pub trap : (t : Trap) → KeepsWhenRefused (TrapCrosses t)

-- all claims about the boundary
pub record BoundaryClaims : Type 0 where
  pub stops : StopsAcross
  pub refusals : RefusalsAcross
