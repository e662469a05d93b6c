-- The line of a record that was cut lies in its buffer.
use Rattle.std.proofs.Common.{◌≤◌, length, arith, sym, length-take-le}
use Rattle.replay_main.proofs.Pieces.{ending-fits}
use Rattle.replay_main.proofs.print_end.Goals as goal

pub slice_bounds-out-end : goal.slice_bounds-out-end
slice_bounds-out-end g c =
    let s = c.args.s in
    omega (arith, c.finish-written.ensures.place, ending-fits s.number s.have s.ended, c.finish-written.auto.out)

pub slice_bounds-print-end : goal.slice_bounds-print-end
slice_bounds-print-end g c =
    let s = c.args.s in
    let room : c.finish-written.result ≤ length c.finish-written.new.out =
    omega (arith, c.finish-written.ensures.place, ending-fits s.number s.have s.ended, c.finish-written.auto.out) in
    sym (length-take-le _ _ room)
