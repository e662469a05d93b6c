-- `recording::bytes::copy` meets its contract. The loop's invariant: the first i bytes are copied.
use Rattle.layout.proofs.Copies.{Copied}
use Rattle.recording.proofs.bytes.copy.Given as goal

abbrev pub invariant-loop-i : goal.invariant-loop-i
invariant-loop-i l = Copied l.from l.to l.i
