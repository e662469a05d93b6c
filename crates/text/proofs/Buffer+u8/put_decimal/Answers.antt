-- `Buffer::put_decimal` meets its contract: the digits are written into the lent buffer.
use mathlib.Core.Path.{refl}
use native.Mathlib.Omega.{arith}
use Rattle.text.proofs.Lengths.{after-digits}
use Rattle.text.proofs.Buffer+u8.put_decimal.Goals as goal

pub returns-clause-puts : goal.returns-clause-puts
returns-clause-puts c = record { same = refl; wrote = c.digits_from-self.ensures }

pub returns-clause-room : goal.returns-clause-room
returns-clause-room c = omega (arith, after-digits _ _ c.digits_from-self.ensures)
