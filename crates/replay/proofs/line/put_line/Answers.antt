-- `line::put_line` meets its contract: the pieces put are those of the line.
use Rattle.text.proofs.Puts.{◌then◌}
use Rattle.replay.specs.Lines.{line}
use Rattle.replay.proofs.line.put_line.Goals as goal

pub returns-clause-puts : goal.returns-clause-puts
unfolding line
returns-clause-puts c = c.put_start.ensures.puts then c.put_pairs.ensures.puts then c.put_text.ensures
