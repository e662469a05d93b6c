-- How many steps a fence synchronization has at most.
use mathlib.Core.List.{List, [], ◌∷◌, ◌++◌, map}
use mathlib.Core.Logic.{⊎_elim}
use Prim.Native.Nat.{ℕ, ◌+◌, ◌≤◌}
use native.Mathlib.Omega.{arith}
use lib.ListN.{length, length-append}
use Rattle.layout.specs.declared.xlen.Xlen.{Xlen}
use Rattle.layout.specs.Width.{bytes}
use Rattle.layout.specs.Geometry.{entry_count}
use Rattle.fence.specs.declared.entry.Fence.{Fence}
use Rattle.fence.specs.Entry.{everything}
use Rattle.fence.specs.Table.{named, remove_named}
use Rattle.fence.specs.Slots.{slot_count}
use Rattle.fence.proofs.Removal.{removed-count, length-named}
use Rattle.page.specs.Entries.{every_entry, is_pending, fence_at}
use Rattle.world.specs.State.{State}
use Rattle.turns.specs.Marks.{Pending}
use Rattle.turns.specs.Turn.{entry_turn, turns}
use Rattle.turns.specs.Steps.{Done, removals, entry_steps, steps, total}
use Rattle.turns.proofs.Truth.{either}
use Rattle.turns.proofs.Numbers.{length-entries}
use Rattle.turns.proofs.FenceSteps.{length-removals}

-- how many slots are used
abbrev used_slots : State → ℕ
used_slots s = length (named everything s.table)

-- each step of an entry's turn but the last takes one of the used slots
entry-total : (xlen : Xlen) (e : ℕ) (s : State) → length (entry_steps xlen e s) + used_slots (entry_turn xlen e s) ≤ 1 + used_slots s
unfolding entry_steps entry_turn
entry-total xlen e s = ⊎_elim (λ h. rw h turned) (λ h. rw h (omega arith)) (either (is_pending xlen s.page e))
  where
    f : Fence
    f = fence_at xlen s.page e

    turned : length (removals (named f s.table) ++ (Done e ∷ [])) + length (named everything (remove_named f s.table)) ≤ 1 + used_slots s
    turned =
        rw (length-append (removals (named f s.table)) (Done e ∷ []), length-removals (named f s.table))
        (omega (arith, removed-count f s.table))

-- the same for several entries
total-used : (xlen : Xlen) (es : List ℕ) (s : State) → total xlen (map Pending es) s + used_slots (turns xlen (map Pending es) s) ≤ length es + used_slots s
unfolding total steps turns
total-used xlen [] s = omega arith
total-used xlen (e ∷ es) s =
    rw (length-append (entry_steps xlen e s) (steps xlen (map Pending es) (entry_turn xlen e s)))
    (omega (arith, entry-total xlen e s, total-used xlen es (entry_turn xlen e s)))

-- at most one step for each entry and one for each slot
pub total-most : (xlen : Xlen) (es : List ℕ) (s : State) → total xlen (map Pending es) s ≤ length es + slot_count s.table
total-most xlen es s = omega (arith, total-used xlen es s, length-named everything s.table)

-- at most 60 + 256 (XLEN 32: 120 + 256), for a page's entries and a table of at most 1,024 words
pub total-every : (xlen : Xlen) (s : State) → length s.table ≤ 1024 → total xlen (map Pending (every_entry xlen)) s ≤ entry_count (bytes xlen) + 256
total-every xlen s h = omega (arith, total-most xlen (every_entry xlen) s, length-entries 0 (entry_count (bytes xlen)))
