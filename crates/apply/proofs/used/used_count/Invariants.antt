-- `apply::used::used_count` meets its contract. The loop's invariant: the used slots among the first i are counted.
use mathlib.Core.Path.{◌≡◌}
use Prim.Native.Nat.{◌≤◌}
use Rattle.apply.specs.Used.{used_among}
use Rattle.apply.proofs.used.used_count.Given as goal

abbrev pub invariant-loop-i : goal.invariant-loop-i
invariant-loop-i l = (l.count ≡ used_among l.i l.table) × (l.count ≤ l.i)
