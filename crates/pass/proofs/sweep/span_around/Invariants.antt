-- `span_around` meets its contract: the least and the greatest so far are around the tests so far.
use lib.ListN.{take}
use Rattle.pass.specs.Inner.{Around}
use Rattle.pass.proofs.sweep.span_around.Given as goal

abbrev pub invariant-loop-t : goal.invariant-loop-t
invariant-loop-t l = Around (take l.t-index l.tests) (record { low = l.low; last = l.last })
