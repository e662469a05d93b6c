-- `layout::dirty::marked` meets its contract: a byte with a bit set is a byte.
use borrow.Author.Rules.{rules}
use Prim.Native.Nat.{◌^◌, ◌<◌}
use native.Mathlib.Omega.{arith}
use lib.Pow.{pow-lt}
use Rattle.layout.specs.Bits.{set_bit}
use Rattle.layout.proofs.BitLaws.{set-op}
use Rattle.layout.proofs.dirty.marked.Goals as goal

-- the byte that results
fits : (c : goal.After-cleared) → set_bit c.args.b c.args.k < 2 ^ 8
fits c = set-op.bound 8 c.args.b c.args.k (search rules) (search rules)

pub overflow_add-result : goal.overflow_add-result
overflow_add-result c = omega (arith, fits c, pow-lt {j = 8} c.requires)
