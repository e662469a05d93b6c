-- `halves::hold` meets its contract: every claim holds.
use Rattle.halves.proofs.Stays.{refusals-change-nothing, other-bits-stay, all-stores-whole}
use Rattle.halves.proofs.Registers.{registers-marked, marks-last}
use Rattle.halves.proofs.Fences.{fences-queued, denied-when-full, pending-last}
use Rattle.halves.proofs.Codes.{codes-by-tests}
use Rattle.halves.proofs.Context.{context-filled}
use Rattle.halves.proofs.Loaded.{context-loaded}
use Rattle.halves.proofs.Meet.{both-halves-meet}
use Rattle.halves.proofs.hold.Goals as goal

pub returns : goal.returns
returns c = record {
  codes = codes-by-tests;
  refusals = refusals-change-nothing;
  other-bits = other-bits-stay;
  whole = all-stores-whole;
  registers = registers-marked;
  fences = fences-queued;
  denied = denied-when-full;
  last = pending-last;
  marks = marks-last;
  context = context-filled;
  loaded = context-loaded;
  halves = both-halves-meet;
}
