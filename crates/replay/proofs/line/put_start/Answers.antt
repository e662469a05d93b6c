-- `line::put_start` meets its contract: the pieces put are those of the line's start.
use Rattle.std.proofs.Common.{arith}
use mir.Facts.{to_z-of_z}
use Rattle.text.proofs.Puts.{◌then◌}
use Rattle.replay.proofs.Lengths.{code-fits, start-pieces, length-start}
use Rattle.replay.proofs.line.put_start.Goals as goal

pub returns : goal.returns
returns c = let a = c.args in
    let code = rw (c.code.ensures, to_z-of_z (code-fits a.answer)) at c.put_signed.ensures.puts in
    let front = c.put_decimal.ensures.puts then c.put_field.ensures.puts then c.put_text.ensures then code in
    let start = rw (start-pieces a.number a.kind a.answer a.steps a.removed) at (front then c.put_field-2.ensures.puts then c.put_field-3.ensures.puts) in
    record { puts = start; room = omega (arith, start.wrote.place, length-start a.number a.kind a.answer a.steps a.removed) }
