-- `hex_from` meets its contract. The measure is the number of digits.
use Rattle.text.proofs.+hex_from.Given as goal

abbrev pub decreases-hex_from : goal.decreases-hex_from
decreases-hex_from l = l.digits
