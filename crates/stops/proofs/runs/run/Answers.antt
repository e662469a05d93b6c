-- `stops::runs::run` meets its contract: a refusal changes nothing, and of an accepted call the first steps are made.
use mathlib.Core.List.{[]}
use native.Mathlib.Omega.{arith}
use borrow.Author.Tests.{eq-eqb, ne_eqb}
use Rattle.std.proofs.Common.{rules}
use Rattle.text.proofs.Puts.{put-at}
use Rattle.checks.specs.Checks.{check7}
use Rattle.checks.specs.Fids.{fid_csr}
use Rattle.checks.proofs.Accepted.{passed-by, room_of}
use Rattle.stops.proofs.Reports.{stopped-refused, stopped-accepted, told-refused, told-accepted, told-fences, short-table, left-is}
use Rattle.stops.proofs.runs.run.Goals as goal

pub returns-in-Err : goal.returns-in-Err
returns-in-Err g c = record {
  stopped_is = rw c.refused.ensures (stopped-refused c.in-Err.ensures);
  wrote = rw c.refused.ensures (told-refused _ _ _ _ _ c.in-Err.ensures);
}

pub page_offset-at-requires : goal.page_offset-at-requires
unfolding check7
page_offset-at-requires g c = (passed-by c.in_default.ensures).seven

pub serve_registers-turned-requires : goal.serve_registers-turned-requires
serve_registers-turned-requires g c = (rw c.page_offset-at.ensures (room_of _ _ _ _ (passed-by c.in_default.ensures)), omega (arith, c.new-told.ensures.place))

pub overflow_sub-result : goal.overflow_sub-result
overflow_sub-result g c = omega (arith, c.unwrap_or.ensures, left-is c.serve_registers-turned.result.left, (c.serve_registers-turned.ensures.0 []).made.left_is)

pub returns-then-fid-eq-SYNC_CSR : goal.returns-then-fid-eq-SYNC_CSR
returns-then-fid-eq-SYNC_CSR g c =
    let two = eq-eqb c.args.fid fid_csr c.if-fid-eq-SYNC_CSR.true in
    let checked = passed-by c.in_default.ensures in
    let start = c.new-told.ensures in
    let put = c.serve_registers-turned.ensures.1 c.args.table.now in
    let said = told-accepted _ _ _ _ _ checked (rw two) c.page_offset-at.ensures (put-at start.same start.place put) in
    let same = put.same in record {
      stopped_is = stopped-accepted c.sync-answer.ensures checked (rw two) c.page_offset-at.ensures (c.serve_registers-turned.ensures.0 c.args.table.now)
          (assumption) (assumption);
      wrote = search (rules, said, same);
    }

pub serve_fences-left-requires : goal.serve_fences-left-requires
serve_fences-left-requires g c =
    let checked = passed-by c.in_default.ensures in record {
      there = rw c.page_offset-at.ensures (room_of _ _ _ _ checked);
      good = rw (ne_eqb _ fid_csr c.if-fid-eq-SYNC_CSR.false) at checked.five;
      enough = λ whole. (short-table _ _ _ _ checked, c.requires whole);
    }

pub overflow_sub-result-2 : goal.overflow_sub-result-2
overflow_sub-result-2 g c = omega (arith, c.unwrap_or-2.ensures, left-is c.serve_fences-left.result, (c.serve_fences-left.ensures c.args.h).made.left_is)

pub returns : goal.returns
returns g c =
    let three = ne_eqb c.args.fid fid_csr c.if-fid-eq-SYNC_CSR.false in
    let checked = passed-by c.in_default.ensures in record {
      stopped_is = stopped-accepted c.sync-answer.ensures checked (rw three) c.page_offset-at.ensures (c.serve_fences-left.ensures c.args.h)
          (assumption) (assumption);
      wrote = told-fences _ _ _ _ _ checked three;
    }
