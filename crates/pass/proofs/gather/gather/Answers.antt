-- `gather` meets its contract: before entry e the tests are those of the pending entries below it.
use mathlib.Core.Path.{◌≡◌, ◌∙◌}
use Prim.Native.Nat.{◌<◌}
use mathlib.Core.Bool.{true, false}
use native.Mathlib.Omega.{arith}
use lib.ListN.{length, length-set}
use Rattle.std.proofs.lemmas.List.{take_more_set}
use Rattle.layout.specs.Width.{bytes}
use Rattle.layout.specs.Geometry.{entry_count}
use Rattle.page.specs.Entries.{is_pending}
use Rattle.pass.proofs.GatherLaws.{few, target_fits_lem, none-gathered, gathered-idle, gathered-more}
use Rattle.pass.proofs.gather.gather.Goals as goal
use Rattle.pass.proofs.gather.gather.Goals.{then-is_pending, else-is_pending}

pub loop-e-init : goal.loop-e-init
loop-e-init c = record { size = (assumption); few = omega arith; tests = none-gathered c.requires.1 }

pub of-requires : goal.of-requires
of-requires c = rw c.fence_at.ensures (target_fits_lem c.args.x c.args.page.now c.loop-e.e)

pub loop-e-preserved : goal.loop-e-preserved
loop-e-preserved c =
    let i = c.loop-e.invariant in
    elim c.if-is_pending.branch [
      | then-is_pending w ↦
          let pending : is_pending c.args.x c.args.page.now c.loop-e.e ≡ true = cc in
          let tested = rw w.fence_at.ensures at w.of.ensures in
          let room : c.loop-e.n < length c.loop-e.room = omega (arith, i.size, i.few, c.loop-e-test.true, c.entry_count-e-end.ensures, few c.args.x) in
          rw (w.room-is, w.n-is)
          record {
            size = length-set c.loop-e.room c.loop-e.n w.of.result ∙ i.size;
            few = omega (arith, i.few);
            tests = rw (take_more_set c.loop-e.room c.loop-e.n w.of.result room) (gathered-more i.tests w.of.result pending tested);
          }
      | else-is_pending w ↦
          let idle : is_pending c.args.x c.args.page.now c.loop-e.e ≡ false = cc in
          rw (w.room-is, w.n-is)
          record { size = i.size; few = omega (arith, i.few); tests = gathered-idle i.tests idle }
    ]

pub returns : goal.returns
returns c =
    let end : c.loop-e.e ≡ entry_count (bytes c.args.x) = omega (arith, c.requires.1.within, c.loop-e-test.false, c.entry_count-e-end.ensures) in
    rw end at c.loop-e.invariant.tests
