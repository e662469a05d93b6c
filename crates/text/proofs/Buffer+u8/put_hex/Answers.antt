-- `Buffer::put_hex` meets its contract: the digits are written into the lent buffer.
use mathlib.Core.Path.{refl}
use native.Mathlib.Omega.{arith}
use Rattle.text.proofs.Lengths.{after-hex}
use Rattle.text.proofs.Buffer+u8.put_hex.Goals as goal

pub returns-clause-puts : goal.returns-clause-puts
returns-clause-puts c = record { same = refl; wrote = c.hex_from-self.ensures }

pub returns-clause-room : goal.returns-clause-room
returns-clause-room c = omega (arith, after-hex _ _ c.hex_from-self.ensures)
