-- `line::put_pair` meets its contract: the pieces put are those of the pair.
use Rattle.text.proofs.Puts.{◌then◌}
use Rattle.replay.specs.Lines.{pair}
use Rattle.replay.proofs.line.put_pair.Goals as goal

pub returns : goal.returns
unfolding pair
returns c = c.put_text.ensures then c.put_hex.ensures.puts then c.put_text-2.ensures then c.put_hex-2.ensures.puts
