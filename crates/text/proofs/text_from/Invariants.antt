-- `text_from` meets its contract: the bytes passed are written.
use lib.ListN.{take}
use Rattle.text.specs.Buffer.{Wrote}
use Rattle.text.proofs.text_from.Given as goal

abbrev pub invariant-loop-b : goal.invariant-loop-b
invariant-loop-b l = Wrote l.initial.out l.at (take l.b-index l.text) l.out l.next
