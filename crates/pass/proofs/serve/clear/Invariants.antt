-- `clear` meets its contract: before entry e Pending of the entries below it is cleared, and counted.
use mathlib.Core.Path.{◌≡◌}
use Rattle.pass.specs.Inner.{cleared_to, cleared_count}
use Rattle.pass.proofs.serve.clear.Given as goal

abbrev pub invariant-loop-e : goal.invariant-loop-e
invariant-loop-e l = record { page : cleared_to l.x l.e l.initial.page ≡ l.page; count : l.cleared ≡ cleared_count l.x l.e l.initial.page }
