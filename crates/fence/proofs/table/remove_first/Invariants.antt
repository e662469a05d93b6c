-- `remove_first` meets its contract: the slots passed are those of the list of named slots below i, all removed and counted, and none is left out.
use Prim.Native.Nat.{ℕ, ◌≤◌}
use mathlib.Core.List.{List}
use mathlib.Core.Path.{◌≡◌}
use lib.ListN.{length}
use Rattle.fence.specs.declared.entry.Fence.{Fence}
use Rattle.fence.specs.Slots.{slot_count}
use Rattle.fence.specs.Table.{remove_slots, named_from}
use Rattle.fence.proofs.table.remove_first.Given as goal

-- before slot i: u is t without the named slots below i, `removed` is their number
pub record Passed (f : Fence) (t : List ℕ) (limit : ℕ) (u : List ℕ) (removed i : ℕ) : Type 0 where
  pub within : i ≤ slot_count t
  pub table : u ≡ remove_slots t (named_from f t 0 i)
  pub count : removed ≡ length (named_from f t 0 i)
  pub room : removed ≤ limit

abbrev pub invariant-loop-i : goal.invariant-loop-i
invariant-loop-i l = Passed l.f l.initial.table l.limit l.table l.removed l.i
