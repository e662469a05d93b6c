-- `recording::bytes::copy` meets its contract. The loop's invariant: the first i bytes are copied.
use native.Mathlib.Omega.{arith}
use Rattle.layout.proofs.Copies.{copied_more, copied_all}
use Rattle.recording.proofs.bytes.copy.Goals as goal

pub loop-i-init : goal.loop-i-init
loop-i-init c = record { within = omega arith; size = c.requires; same = λ k f. absurd (omega arith) }

pub loop-i-preserved : goal.loop-i-preserved
loop-i-preserved c = copied_more c.args.from.now c.loop-i.to c.loop-i.i (omega arith) c.loop-i.invariant

pub returns : goal.returns
returns c = copied_all c.args.from.now c.loop-i.to c.loop-i.i (omega arith) c.loop-i.invariant
