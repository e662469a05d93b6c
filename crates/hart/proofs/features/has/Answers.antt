-- `hart::features::has` meets its contract: a feature set has no bit from 64 on.
use Rattle.std.proofs.Common.{rules}
use Rattle.hart.proofs.BitLaws.{high_bit}
use Rattle.hart.proofs.features.has.Goals as goal

pub returns-else-k-lt64 : goal.returns-else-k-lt64
returns-else-k-lt64 c = rw (high_bit _ _ c.ranges.features.fits c.if-k-lt64.false) (search rules)
