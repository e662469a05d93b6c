-- `line::put_pairs` meets its contract. The loop's invariant: the pairs of the first 2i words are put.
use Rattle.std.proofs.Common.{add-one, arith}
use Rattle.text.proofs.Puts.{put-nothing, ◌then◌}
use Rattle.replay.specs.Lines.{pairs, reports_told}
use Rattle.replay.proofs.Lengths.{length-first, pairs-more, pairs-all, few-pairs}
use Rattle.replay.proofs.line.put_pairs.Goals as goal

pub loop-i-init : goal.loop-i-init
unfolding pairs reports_told
loop-i-init c = put-nothing _

pub put_pair-requires : goal.put_pair-requires
put_pair-requires c = omega (arith, c.loop-i.invariant.wrote.place, length-first c.loop-i.i c.args.words.now)

pub loop-i-preserved : goal.loop-i-preserved
loop-i-preserved c = let more = pairs-more c.loop-i.i c.args.words.now (omega arith) in
    rw add-one (rw more at (c.loop-i.invariant then c.put_pair.ensures))

pub returns : goal.returns
returns c =
    let all = rw (pairs-all c.loop-i.i c.args.words.now (omega arith)) at c.loop-i.invariant in
    record { puts = all; room = omega (arith, all.wrote.place, few-pairs c.args.words.now c.requires.1) }
