-- `line::put_cut` meets its contract: the pieces put are those of the line.
use Rattle.text.proofs.Puts.{◌then◌}
use Rattle.replay.specs.Lines.{cut_line}
use Rattle.replay.proofs.line.put_cut.Goals as goal

pub returns-clause-puts : goal.returns-clause-puts
unfolding cut_line
returns-clause-puts c = c.put_decimal.ensures.puts then c.put_text.ensures
