-- `store` meets its contract: the record is the one that the part begins with.
use Rattle.std.proofs.Common.{◌≡◌, ◌≤◌, drop, arith, length-drop, length-take-le, rules}
use Rattle.recording.specs.Format.{header_length, body_length}
use Rattle.recording.proofs.Good.{good-bounds}
use Rattle.replay.specs.Lines.{reports_told}
use Rattle.replay.proofs.Headers.{plus-less}
use Rattle.replay.proofs.Ahead.{Store, store-parts, stepped-store}
use Rattle.replay.proofs.feed.store.Goals as goal

pub good_kind-kind-requires : goal.good_kind-kind-requires
good_kind-kind-requires c =
    let ahead : Store 0 c.args.part.now =
    store-parts 0 c.args.part.now c.requires.0 in
    (omega (arith, ahead.fits), ahead.good)

pub body_length-taken-requires : goal.body_length-taken-requires
body_length-taken-requires c =
    let ahead : Store 0 c.args.part.now =
    store-parts 0 c.args.part.now c.requires.0 in
    omega (arith, ahead.fits)

pub overflow_add-taken : goal.overflow_add-taken
overflow_add-taken c =
    let ahead : Store 0 c.args.part.now =
    store-parts 0 c.args.part.now c.requires.0 in
    let size : (c.body_length-taken.result ≡ body_length c.args.part.now) × (c.body_length-taken.result ≤ 4104) =
    (c.body_length-taken.ensures, rw c.body_length-taken.ensures (good-bounds _ _ ahead.good).1) in
    omega (arith, size.1)

pub slice_bounds-store-end : goal.slice_bounds-store-end
slice_bounds-store-end c =
    let ahead : Store 0 c.args.part.now =
    store-parts 0 c.args.part.now c.requires.0 in
    omega (arith, c.body_length-taken.ensures, ahead.fits)

pub store-answer-requires : goal.store-answer-requires
store-answer-requires c =
    let ahead : Store 0 c.args.part.now =
    store-parts 0 c.args.part.now c.requires.0 in
    let a = ahead in
    let p = c.args.part.now in (
      rw (
        c.good_kind-kind.ensures,
        plus-less header_length c.body_length-taken.result,
        c.body_length-taken.ensures,
        length-take-le (body_length p) (drop header_length p) (simp length-drop (omega (arith, a.fits))),
      ) a.good,
      rw c.good_kind-kind.ensures a.kind,
    )

pub put_line-requires : goal.put_line-requires
put_line-requires c = (c.requires.1, search rules)

pub returns : goal.returns
unfolding reports_told
returns c h pending room =
    let ahead : Store 0 c.args.part.now =
    store-parts 0 c.args.part.now c.requires.0 in
    rw c.body_length-taken.ensures
    (stepped-store h c.args.number c.args.memory.now c.args.table.now pending c.args.part.now
    _ _ c.store-answer.result room ahead.good ahead.fits
    (rw (c.good_kind-kind.ensures, plus-less header_length c.body_length-taken.result, c.body_length-taken.ensures) at (c.store-answer.ensures h))
    (rw (c.from.ensures, c.good_kind-kind.ensures) at c.put_line.ensures.puts) c.put_line.ensures.room)
