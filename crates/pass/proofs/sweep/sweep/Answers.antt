-- `sweep` meets its contract: before slot i the slots below it that pass are removed and counted.
use mathlib.Core.Path.{◌≡◌, sym, ◌∙◌}
use Prim.Native.Nat.{◌+◌, ◌*◌, ◌≤◌}
use native.Mathlib.Omega.{arith}
use lib.ListN.{length}
use Rattle.pass.proofs.SweepLaws.{passed-kept, passed-gone, passed-named, named-is-used}
use Rattle.pass.proofs.sweep.sweep.Goals as goal
use Rattle.pass.proofs.sweep.sweep.Goals.{then-is_named, else-is_named}

pub loop-i-preserved : goal.loop-i-preserved
loop-i-preserved c =
    let p = c.loop-i.invariant in
    let tests = c.args.tests.now in
    let e = sym (passed-named tests p) ∙ sym c.is_named.ensures in
    let room : 4 * c.loop-i.i + 4 ≤ length c.args.table.now = omega (arith, c.requires, c.loop-i-test.true) in
    elim c.if-is_named.branch [
      | then-is_named w ↦
          let named = e ∙ w.if-is_named.true in
          rw (w.table-is, w.removed-is, w.remove_slot.ensures) (passed-gone p room named (named-is-used tests c.args.table.now c.loop-i.i named))
      | else-is_named w ↦ rw (w.table-is, w.removed-is) (passed-kept p (e ∙ w.if-is_named.false))
    ]

pub returns : goal.returns
returns c =
    let p = c.loop-i.invariant in
    let at : c.loop-i.i ≡ c.args.slots = omega (arith, c.loop-i.auto, c.loop-i-test.false) in
    (rw at at p.table, p.count)
