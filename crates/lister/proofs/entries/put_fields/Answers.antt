-- `put_fields` meets its contract: the pieces put are the fields.
use Rattle.text.proofs.Puts.{◌then◌}
use Rattle.lister.specs.Listing.{fields}
use Rattle.lister.proofs.entries.put_fields.Goals as goal

pub returns : goal.returns
unfolding fields
returns c = (rw c.kind.ensures at c.put_field.ensures.puts)
    then (rw c.order.ensures at c.put_field-2.ensures.puts)
    then (rw c.vmid.ensures at c.put_field-3.ensures.puts)
    then (rw c.asid.ensures at c.put_field-4.ensures.puts)
    then c.put_field-5.ensures.puts
    then c.put_field-6.ensures.puts
    then c.put_text.ensures
