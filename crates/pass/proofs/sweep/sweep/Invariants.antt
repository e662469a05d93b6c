-- `sweep` meets its contract: before slot i the slots below it that pass are removed and counted.
use Rattle.pass.specs.Inner.{named_by}
use Rattle.pass.proofs.SweepLaws.{Passed}
use Rattle.pass.proofs.sweep.sweep.Given as goal

abbrev pub invariant-loop-i : goal.invariant-loop-i
invariant-loop-i l = Passed (named_by l.tests l.initial.table) l.initial.table l.table l.removed l.i
