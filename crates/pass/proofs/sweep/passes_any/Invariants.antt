-- `passes_any` meets its contract: the tests so far are not passed, and one that is passed ends the search.
use mathlib.Core.Path.{◌≡◌}
use mathlib.Core.Bool.{false}
use lib.ListN.{get_or, take}
use Rattle.pass.specs.Inner.{passes_any_by}
use Rattle.pass.proofs.sweep.passes_any.Given as goal

abbrev pub invariant-loop-t : goal.invariant-loop-t
invariant-loop-t l = passes_any_by (take l.t-index l.tests) l.who (get_or l.slot 1 0) (get_or l.slot 2 0) ≡ false
