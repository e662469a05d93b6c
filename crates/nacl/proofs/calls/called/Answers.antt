-- `nacl::calls::called` meets its contract: FID 2 and 3 are the whole form, a refusal touches nothing, and each other call leaves what its
-- definition gives.
use mathlib.Core.Path.{sym, ap}
use native.Mathlib.Omega.{arith}
use Rattle.std.proofs.Common.{rules}
use Rattle.text.proofs.Puts.{put-at}
use Rattle.world.specs.World.{lent}
use Rattle.checks.specs.Codes.{accepted}
use Rattle.nacl.proofs.Outcomes.{call-refused, call-served, call-whole, servable}
use Rattle.nacl.proofs.Said.{call-silent, call-said, whole-said}
use Rattle.nacl.proofs.calls.called.Goals as goal

pub returns-then-c : goal.returns-then-c
returns-then-c c =
    let a = c.args in
    let w = lent a.h a.base a.memory.now a.table.now in record {
      call_served = call-whole a.c.eid a.c.fid a.c.a0 a.c.a1 a.c.a2 w c.if-c.true c.whole.ensures.whole_is;
      wrote = rw (whole-said a.c.eid a.c.fid a.c.a0 a.c.a1 a.c.a2 w c.if-c.true) c.whole.ensures.wrote;
    }

pub returns-in-Err : goal.returns-in-Err
returns-in-Err c =
    let a = c.args in
    let w = lent a.h a.base a.memory.now a.table.now in
    let no = sym (ap accepted c.in-Err.ensures.same) in record {
      call_served = rw c.refused.ensures (call-refused a.c.eid a.c.fid a.c.a0 a.c.a1 a.c.a2 w c.in-Err.ensures no);
      wrote = rw c.refused.ensures (call-silent a.c.eid a.c.fid a.c.a0 a.c.a1 a.c.a2 w no a.out.now);
    }

pub serve-hart-requires : goal.serve-hart-requires
serve-hart-requires c =
    let a = c.args in
    (servable a.c.eid a.c.fid a.c.a0 a.c.a1 a.c.a2 (lent a.h a.base a.memory.now a.table.now) (sym (ap accepted c.in-Ok.ensures.same)) c.if-c.false, omega (arith, c.new-told.ensures.place))

pub returns : goal.returns
returns c =
    let a = c.args in
    let w = lent a.h a.base a.memory.now a.table.now in
    let yes = sym (ap accepted c.in-Ok.ensures.same) in
    let start = c.new-told.ensures in
    let said = call-said a.c.eid a.c.fid a.c.a0 a.c.a1 a.c.a2 w yes (put-at start.same start.place c.serve-hart.ensures.puts) in record {
      call_served = rw c.done.ensures (call-served a.c.eid a.c.fid a.c.a0 a.c.a1 a.c.a2 w yes c.if-c.false c.in-Ok.ensures c.serve-hart.ensures.table_after);
      wrote = rw c.done.ensures (search (rules, said));
    }
