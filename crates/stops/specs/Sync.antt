-- FID 2 and 3, whole and stoppable.
use Rattle.std.specs.Prelude.{Bool, false, cond, List, [], ◌∷◌, map, ℕ, min, eqb, leb, take, Option, Some, None}
use Rattle.layout.specs.declared.xlen.Xlen.{Xlen}
use Rattle.csr.specs.Csrs.{Csr, turn_order, at_turn, lookup}
use Rattle.hart.specs.Bits.{all_ones}
use Rattle.hart.specs.Dropped.{Report}
use Rattle.page.specs.Entries.{every_entry}
use Rattle.world.specs.World.{World, width}
use Rattle.world.specs.State.{state_of, with_state}
use Rattle.turns.specs.Marks.{Mark, Dirty, Pending}
use Rattle.turns.specs.Turn.{turns}
use Rattle.turns.specs.Steps.{steps, total, stopped}
use Rattle.turns.specs.Reports.{reports}
use Rattle.checks.specs.Fids.{fid_csr}
use Rattle.checks.specs.Checks.{sync_answer}
use Rattle.checks.specs.Codes.{accepted}

-- the register that was found
abbrev pub found_one : Option ℕ → List Csr
found_one (Some t) = at_turn t ∷ []
found_one None = []

-- the registers that FID 2 serves: all-ones gives each its turn, a number one
abbrev pub csrs_asked : (xlen : Xlen) → ℕ → List Csr
csrs_asked xlen n = cond (eqb n (all_ones xlen)) (turn_order xlen) (found_one (lookup xlen n))

-- the entries that FID 3 serves: all-ones gives every entry its turn, ascending, an index one
abbrev pub entries_asked : (xlen : Xlen) → ℕ → List ℕ
entries_asked xlen e = cond (eqb e (all_ones xlen)) (every_entry xlen) (e ∷ [])

-- the marks that the call deals with
abbrev pub asked : (xlen : Xlen) → ℕ → ℕ → List Mark
asked xlen fid a = cond (eqb fid fid_csr) (map Dirty (csrs_asked xlen a)) (map Pending (entries_asked xlen a))

-- the whole form's turns
unfoldable pub synced : ℕ → ℕ → World → World
synced fid a w = with_state w (turns (width w) (asked (width w) fid a) (state_of w))

-- how many steps there are
unfoldable pub sync_total : ℕ → ℕ → World → ℕ
sync_total fid a w = total (width w) (asked (width w) fid a) (state_of w)

-- the first n of them
unfoldable pub synced_for : ℕ → ℕ → ℕ → World → World
synced_for n fid a w = with_state w (stopped (width w) n (asked (width w) fid a) (state_of w))

-- the whole form of the call: what it leaves, but for the count of writes that dropped bits
unfoldable pub whole : ℕ → ℕ → ℕ → World → World
whole eid fid a w = cond (accepted (sync_answer eid fid a w)) (synced fid a w) w

-- the number of its steps; 0 for a refusal
unfoldable pub whole_steps : ℕ → ℕ → ℕ → World → ℕ
whole_steps eid fid a w = cond (accepted (sync_answer eid fid a w)) (sync_total fid a w) 0

-- what its register writes say; a refusal says nothing
unfoldable pub whole_reports : ℕ → ℕ → ℕ → World → List Report
whole_reports eid fid a w =
    cond (accepted (sync_answer eid fid a w)) (reports (width w) (steps (width w) (asked (width w) fid a) (state_of w)) (state_of w)) []

-- the stoppable form: what it leaves, but for that count
unfoldable pub stoppable : ℕ → ℕ → ℕ → ℕ → World → World
stoppable n eid fid a w = cond (accepted (sync_answer eid fid a w)) (synced_for n fid a w) w

-- the number of steps that it reports: min(N, total), 0 for a refusal
unfoldable pub steps_made : ℕ → ℕ → ℕ → ℕ → World → ℕ
steps_made n eid fid a w = cond (accepted (sync_answer eid fid a w)) (min n (sync_total fid a w)) 0

-- what the register writes among its steps say
unfoldable pub stop_reports : ℕ → ℕ → ℕ → ℕ → World → List Report
stop_reports n eid fid a w =
    cond (accepted (sync_answer eid fid a w)) (reports (width w) (take n (steps (width w) (asked (width w) fid a) (state_of w))) (state_of w)) []

-- finished exactly if total <= N; a refusal is not finished
unfoldable pub finished : ℕ → ℕ → ℕ → ℕ → World → Bool
finished n eid fid a w = cond (accepted (sync_answer eid fid a w)) (leb (sync_total fid a w) n) false
