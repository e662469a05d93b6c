-- `Buffer::put_field` meets its contract.
use Rattle.text.proofs.Puts.{◌then◌}
use Rattle.text.proofs.Buffer+u8.put_field.Goals as goal

pub returns-clause-puts : goal.returns-clause-puts
returns-clause-puts c = c.put_text.ensures then c.put_decimal.ensures.puts
