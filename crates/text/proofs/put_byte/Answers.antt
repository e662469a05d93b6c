-- `put_byte` meets its contract: the byte is written where there is room for it.
use Rattle.text.proofs.Writing.{wrote-one, left_out}
use Rattle.text.proofs.put_byte.Goals as goal
use Rattle.text.proofs.put_byte.Goals.{then-at-out, else-at-out}

pub returns : goal.returns
returns c =
    elim c.if-at-out.branch [
      | then-at-out w ↦ rw w.out-is (wrote-one _ _ _)
      | else-at-out w ↦ rw w.out-is (left_out _ _ _ w.if-at-out.false)
    ]
