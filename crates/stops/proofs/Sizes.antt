-- Stops keep how many registers the record has.
use mathlib.Core.List.{List, [], ◌∷◌}
use mathlib.Core.Logic.{⊎_elim}
use Prim.Native.Nat.{ℕ}
use lib.ListN.{take}
use Rattle.hart.proofs.Shape.{Sized}
use Rattle.hart.proofs.Frame.{write-sized}
use Rattle.layout.specs.declared.xlen.Xlen.{Xlen}
use Rattle.page.specs.Registers.{csr_word}
use Rattle.world.specs.World.{World}
use Rattle.world.specs.State.{State, state_of}
use Rattle.turns.specs.Turn.{write_from_word, clear_its_bit, store_reading}
use Rattle.turns.specs.Steps.{Step, Write, Clear, Store, Remove, Done, after, run, steps, stopped}
use Rattle.checks.specs.Checks.{sync_answer}
use Rattle.checks.specs.Codes.{accepted}
use Rattle.checks.proofs.Truth.{either}
use Rattle.stops.specs.Sync.{asked, synced_for, stoppable}

-- any steps do
run-sized : (xlen : Xlen) (xs : List Step) (s : State) → Sized s.hart → Sized (run xlen xs s).hart
unfolding run after write_from_word clear_its_bit store_reading
run-sized xlen [] s z = z
run-sized xlen (Write c ∷ xs) s z = run-sized xlen xs (after xlen (Write c) s) (write-sized c (csr_word xlen s.page c) s.hart z)
run-sized xlen (Clear c ∷ xs) s z = run-sized xlen xs (after xlen (Clear c) s) z
run-sized xlen (Store c ∷ xs) s z = run-sized xlen xs (after xlen (Store c) s) z
run-sized xlen (Remove i ∷ xs) s z = run-sized xlen xs (after xlen (Remove i) s) z
run-sized xlen (Done e ∷ xs) s z = run-sized xlen xs (after xlen (Done e) s) z

-- and so does the stoppable form
pub stop-sized : (n eid fid a : ℕ) (w : World) → Sized w.hart → Sized (stoppable n eid fid a w).hart
unfolding stoppable synced_for stopped
stop-sized n eid fid a w z =
    ⊎_elim (λ t. rw t (run-sized w.hart.xlen (take n (steps w.hart.xlen (asked w.hart.xlen fid a) (state_of w))) (state_of w) z)) (λ r. rw r z) (either (accepted (sync_answer eid fid a w)))
