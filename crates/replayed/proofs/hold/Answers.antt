-- `replayed::hold` meets its contract: every claim holds.
use Rattle.replayed.proofs.Parts.{cuts-do-not-count, printed-in-parts, begins-fresh}
use Rattle.replayed.proofs.Records.{record-by-record, whole-ends-quietly, cut-is-not-applied, bad-ends}
use Rattle.replayed.proofs.Effects.{refusals-change-nothing, only-these-count, removed-are-gone}
use Rattle.replayed.proofs.Stores.{writes-land, slots-placed}
use Rattle.replayed.proofs.Sound.{stays-sound, none-fails}
use Rattle.replayed.proofs.Printed as printed
use Rattle.replayed.proofs.hold.Goals as goal

pub returns : goal.returns
returns c = record {
  cuts = cuts-do-not-count;
  printed = printed-in-parts;
  begins = begins-fresh;
  records = record-by-record;
  quiet = whole-ends-quietly;
  cut = cut-is-not-applied;
  bad = bad-ends;
  refusals = refusals-change-nothing;
  counts = only-these-count;
  removed = removed-are-gone;
  writes = writes-land;
  slots = slots-placed;
  sound = stays-sound;
  none-fails = none-fails;
  samples = printed.samples;
}
