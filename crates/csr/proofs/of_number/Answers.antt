-- `csr::of_number` meets its contract: no register has a number of more than 12 bits or with others than 2 in bits 9:8, and of the rest the index decides.
use mathlib.Core.Path.{sym, ap, ◌∙◌}
use Prim.Native.Nat.{◌<◌}
use native.Mathlib.Omega.{arith}
use Rattle.layout.proofs.IndexLaws.{index-lt}
use Rattle.csr.specs.Inner.{at_index}
use Rattle.csr.proofs.PlaceLaws.{lookup-index}
use Rattle.csr.proofs.of_number.Goals as goal

pub at_index-requires : goal.at_index-requires
at_index-requires c = rw c.index_of.ensures (index-lt c.args.n)

pub returns : goal.returns
returns c =
    let small : c.args.n < 0x1000 = omega arith in
    c.at_index.ensures ∙ ap (at_index c.args.x) c.index_of.ensures ∙ sym (lookup-index c.args.x _ small c.if-n-ne512.false)
