-- `Buffer::put` meets its contract: the item is written where there is room for it.
use mathlib.Core.Path.{refl}
use Rattle.text.proofs.Writing.{wrote-one, left_out}
use Rattle.text.proofs.Buffer.put.Goals as goal
use Rattle.text.proofs.Buffer.put.Goals.{then-self, else-self}

pub returns : goal.returns
returns g c =
    elim c.if-self.branch [
      | then-self w ↦ rw w.self-is (record { same = refl; wrote = wrote-one _ _ _ })
      | else-self w ↦ rw w.self-is (record { same = refl; wrote = left_out _ _ _ w.if-self.false })
    ]
