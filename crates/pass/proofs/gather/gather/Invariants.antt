-- `gather` meets its contract: before entry e the tests are those of the pending entries below it.
use mathlib.Core.Path.{◌≡◌}
use Prim.Native.Nat.{◌≤◌}
use lib.ListN.{length, take}
use Rattle.pass.specs.Inner.{Gathered}
use Rattle.pass.proofs.gather.gather.Given as goal

abbrev pub invariant-loop-e : goal.invariant-loop-e
invariant-loop-e l = record { size : length l.room ≡ 120; few : l.n ≤ l.e; tests : Gathered l.x l.page l.e (take l.n l.room) }
