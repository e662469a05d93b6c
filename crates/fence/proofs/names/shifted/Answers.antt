-- `shifted` meets its contract: a u64 is below 2 ^ 64, so from order 64 on its quotient is 0.
use mathlib.Core.Path.{sym}
use Prim.Native.Nat.{◌≤◌}
use native.Mathlib.Omega.{arith}
use native.Mathlib.Nat.{div-eq_of_lt, lt_of_lt_of_le}
use lib.Pow.{pow_mono}
use Rattle.fence.proofs.names.shifted.Goals as goal

pub returns-else-order-lt-BITS : goal.returns-else-order-lt-BITS
returns-else-order-lt-BITS c =
    let large : 64 ≤ c.args.order = omega arith in
    sym (div-eq_of_lt (lt_of_lt_of_le c.ranges.p.fits (pow_mono large)))
