-- `stops::runs::stopped_then_whole` meets its contract. The loop's invariant: the record, memory and the table are those after the first i
-- stops. Demand 3 says what the whole form leaves of them.
use mathlib.Core.Path.{refl, sym, ap, ◌∙◌}
use lib.ListN.{get_or}
use Rattle.world.specs.World.{World, lent}
use Rattle.checks.specs.Checks.{sync_answer}
use Rattle.checks.specs.Codes.{accepted}
use Rattle.checks.proofs.Codes.{answer-is}
use Rattle.stops.specs.Sync.{whole, whole_steps, stoppable}
use Rattle.stops.proofs.Restart.{restartable}
use Rattle.stops.proofs.After.{no_stop, after_next, all-stops}
use Rattle.stops.proofs.runs.stopped_then_whole.Goals as goal

pub loop-limit-init : goal.loop-limit-init
loop-limit-init c =
    let world : World =
    lent c.args.h c.args.base c.args.memory.now c.args.table.now in
    (refl, refl, no_stop c.args.eid c.args.fid c.args.a world, refl)

pub slice_bounds-stoppable-end : goal.slice_bounds-stoppable-end
slice_bounds-stoppable-end c = sym c.loop-limit.invariant.3

pub loop-limit-preserved : goal.loop-limit-preserved
loop-limit-preserved c =
    let world : World =
    lent c.args.h c.args.base c.args.memory.now c.args.table.now in
    let inv = c.loop-limit.invariant in
    let i = c.loop-limit.limit-index in (
      c.stoppable.auto.memory ∙ inv.0,
      c.stoppable.auto.table ∙ inv.1,
      c.stoppable.ensures.stopped_is.world
          ∙ ap (stoppable (get_or c.args.stops.now i 0) c.args.eid c.args.fid c.args.a) inv.2
          ∙ sym (after_next c.args.eid c.args.fid c.args.a c.args.stops.now i world c.loop-limit-test.true),
      c.stoppable.auto.out ∙ inv.3,
    )

pub slice_bounds-whole-end : goal.slice_bounds-whole-end
slice_bounds-whole-end c = sym c.loop-limit.invariant.3

pub returns : goal.returns
returns c =
    let world : World =
    lent c.args.h c.args.base c.args.memory.now c.args.table.now in
    let e = all-stops c.args.eid c.args.fid c.args.a c.args.stops.now c.loop-limit.limit-index world c.loop-limit-test.false c.loop-limit.invariant.2 in
    let same = restartable c.args.stops.now c.args.eid c.args.fid c.args.a world in record {
      end_is = record {
        answer = answer-is (c.whole.ensures.whole_is.answer.same ∙ ap (sync_answer c.args.eid c.args.fid c.args.a) e ∙ same.same_answer.same);
        steps = c.whole.ensures.whole_is.steps ∙ ap (whole_steps c.args.eid c.args.fid c.args.a) e;
        done = c.whole.ensures.whole_is.done ∙ ap (λ (w : World). accepted (sync_answer c.args.eid c.args.fid c.args.a w)) e ∙ ap accepted same.same_answer.same;
        world = c.whole.ensures.whole_is.world ∙ ap (whole c.args.eid c.args.fid c.args.a) e ∙ same.same_end;
      };
      restartable = same;
    }
