-- `text_from` meets its contract: the bytes passed are written.
use native.Mathlib.Omega.{arith}
use Rattle.text.proofs.Writing.{wrote_nothing, one_more}
use Rattle.text.proofs.text_from.Goals as goal

pub loop-b-init : goal.loop-b-init
loop-b-init c = wrote_nothing _ _

pub loop-b-preserved : goal.loop-b-preserved
loop-b-preserved c = one_more _ _ (omega arith) c.loop-b.invariant c.put_byte-next.ensures
