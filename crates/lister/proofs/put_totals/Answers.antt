-- `put_totals` meets its contract: the pieces put are those of the line.
use Rattle.text.proofs.Puts.{◌then◌}
use Rattle.lister.specs.Listing.{totals}
use Rattle.lister.proofs.put_totals.Goals as goal

pub returns : goal.returns
unfolding totals
returns c = c.put_field.ensures.puts then c.put_field-2.ensures.puts then c.put_text.ensures
