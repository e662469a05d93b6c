-- `remove_named` meets its contract: a table has fewer slots than the limit, so all named ones are among the first.
use Prim.Native.Nat.{◌≤◌}
use mathlib.Core.Path.{ap, ◌∙◌}
use native.Mathlib.Omega.{arith}
use native.Mathlib.Nat.{min-eq_right}
use lib.ListN.{length}
use lib.Seq.{take_all}
use Rattle.fence.specs.Table.{named, remove_slots}
use Rattle.fence.proofs.Removal.{length-named}
use Rattle.fence.proofs.table.remove_named.Goals as goal

pub returns : goal.returns
returns c = let t = c.args.table.now in
    let r = c.remove_first.ensures in
    let few : length (named c.args.f t) ≤ 0xFFFF_FFFF_FFFF_FFFF = omega (arith, length-named c.args.f t) in
    (r.table_after ∙ ap (remove_slots t) (take_all _ (named c.args.f t) few), r.value ∙ min-eq_right few)
