-- `digits_from` meets its contract. The measure is the number of digits.
use Rattle.text.proofs.+digits_from.Given as goal

abbrev pub decreases-digits_from : goal.decreases-digits_from
decreases-digits_from l = l.digits
