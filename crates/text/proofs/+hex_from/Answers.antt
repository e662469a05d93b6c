-- `hex_from` meets its contract: the text of the upper digits, and the last digit after it.
use native.Mathlib.Omega.{arith}
use Rattle.text.proofs.Lengths.{after-hex}
use Rattle.text.proofs.Steps.{no-hex, hex-step}
use Rattle.text.proofs.+hex_from.Goals as goal

pub returns-then-digits-eq0 : goal.returns-then-digits-eq0
returns-then-digits-eq0 t c = rw c.if-digits-eq0.true (no-hex _ _ _)

pub put_byte-requires : goal.put_byte-requires
put_byte-requires t c = omega (arith, after-hex _ _ c.hex_from-next.ensures)

pub returns : goal.returns
returns t c = hex-step _ _ c.if-digits-eq0.false c.hex_from-next.ensures c.glyph.ensures c.put_byte.ensures
