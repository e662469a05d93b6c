-- `digits_from` meets its contract: the text of the upper digits, and the last digit after it.
use native.Mathlib.Omega.{arith}
use Rattle.text.proofs.Lengths.{after-digits}
use Rattle.text.proofs.Steps.{no-digits, digits_step, one-digit}
use Rattle.text.proofs.+digits_from.Goals as goal

pub returns-then-digits-eq0 : goal.returns-then-digits-eq0
returns-then-digits-eq0 t c = rw c.if-digits-eq0.true (no-digits _ _ _)

pub returns-then-n-lt10 : goal.returns-then-n-lt10
returns-then-n-lt10 t c = one-digit _ _ c.if-digits-eq0.false c.if-n-lt10.true c.glyph.ensures c.put_byte.ensures

pub put_byte-requires-2 : goal.put_byte-requires-2
put_byte-requires-2 t c = omega (arith, after-digits _ _ c.digits_from-next.ensures)

pub returns : goal.returns
returns t c = digits_step _ _ c.if-digits-eq0.false c.if-n-lt10.false c.digits_from-next.ensures c.glyph-2.ensures c.put_byte-2.ensures
