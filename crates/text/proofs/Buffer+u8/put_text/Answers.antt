-- `Buffer::put_text` meets its contract: the bytes are written into the lent buffer.
use mathlib.Core.Path.{refl}
use Rattle.text.proofs.Buffer+u8.put_text.Goals as goal

pub returns : goal.returns
returns c = record { same = refl; wrote = c.text_from-self.ensures }
