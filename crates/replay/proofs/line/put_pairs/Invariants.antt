-- `line::put_pairs` meets its contract. The loop's invariant: the pairs of the first 2i words are put.
use Rattle.text.specs.Buffer.{Put}
use Rattle.replay.proofs.Lengths.{first_pairs}
use Rattle.replay.proofs.line.put_pairs.Given as goal

abbrev pub invariant-loop-i : goal.invariant-loop-i
invariant-loop-i l = Put l.initial.out (first_pairs l.i l.words) l.out
