-- `put_line` meets its contract: the pieces put are those of the line.
use Rattle.text.proofs.Puts.{◌then◌}
use Rattle.csr.specs.Csrs.{at_turn}
use Rattle.page.proofs.Places.{word-is}
use Rattle.lister.specs.Listing.{csr_line}
use Rattle.lister.proofs.registers.put_line.Goals as goal

pub returns : goal.returns
unfolding csr_line
returns c = let a = c.args in
    let word = word-is (at_turn a.t) a.image.now c.index.ensures.0 a.x c.csr_word-value.ensures in
    c.put_text.ensures
    then (rw c.number.ensures at c.put_hex.ensures.puts)
    then c.put_text-2.ensures
    then (rw (word, c.bytes-digits.ensures) at c.put_hex-2.ensures.puts)
    then c.put_text-3.ensures
