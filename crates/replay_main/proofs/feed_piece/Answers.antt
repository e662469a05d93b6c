-- What the library says of a part carries on what was there before it.
use Rattle.std.proofs.Common.{rules, take_all, ◌<◌, length, arith}
use Rattle.std.proofs.lemmas.List.{length-drop}
use Rattle.replay_main.proofs.Pieces.{going_next, going-all, some, rest_shorter}
use Rattle.replay_main.proofs.feed_piece.Goals as goal

pub loop-rest-preserved : goal.loop-rest-preserved
loop-rest-preserved g c =
    let going = c.loop-rest.invariant in
    going_next going (c.feed-fed.ensures.0 going.ready) (take_all _ _ (simp length-drop (omega arith)))

pub loop-rest-smaller : goal.loop-rest-smaller
loop-rest-smaller g c =
    let ready = c.loop-rest.invariant.ready in
    let left : 0 < length c.loop-rest.rest.now = search rules in
    rest_shorter _ _ c.loop-rest.rest.now (some ready (c.feed-fed.ensures.0 ready) (omega (arith, c.loop-rest.auto.out, c.requires.1)) left) left

pub returns : goal.returns
returns g c = (c.loop-rest.invariant.ready, going-all c.loop-rest.invariant (search rules))
