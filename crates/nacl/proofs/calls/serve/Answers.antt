-- `nacl::calls::serve` meets its contract: each call leaves what its definition gives.
use Rattle.world.specs.World.{lent}
use Rattle.text.proofs.Puts.{put-nothing}
use Rattle.nacl.proofs.Outcomes.{served-set, served-sret, served-probe}
use Rattle.nacl.proofs.Said.{sret-said, none_said}
use Rattle.nacl.proofs.calls.serve.Goals as goal

pub resume_there-requires : goal.resume_there-requires
resume_there-requires c = let there = c.requires.0.there (assumption) in (there.0, there.1, c.requires.1)

pub returns-then-c-eq-SYNC_SRET : goal.returns-then-c-eq-SYNC_SRET
returns-then-c-eq-SYNC_SRET c =
    let w = lent c.args.h c.args.base c.args.memory.now c.args.table.now in
    record {
      table_after = served-sret c.args.c.fid c.args.c.a0 c.args.c.a1 w c.if-c-eq-SYNC_SRET.true c.resume_there.ensures.on_page;
      puts = rw (sret-said c.args.c.fid c.args.c.a0 w c.if-c-eq-SYNC_SRET.true) c.resume_there.ensures.puts;
    }

pub page_named-page-requires : goal.page_named-page-requires
page_named-page-requires c = c.requires.0.named c.if-c-eq-SET.true

pub returns-then-c-eq-SET : goal.returns-then-c-eq-SET
returns-then-c-eq-SET c =
    let w = lent c.args.h c.args.base c.args.memory.now c.args.table.now in
    record {
      table_after = served-set c.args.c.fid c.args.c.a0 c.args.c.a1 w c.if-c-eq-SET.true c.with_shmem.ensures (c.page_named-page.ensures c.args.table.now);
      puts = rw (none_said c.args.c.fid c.args.c.a0 c.args.c.a1 w c.requires.0 c.if-c-eq-SYNC_SRET.false) (put-nothing c.args.told.now);
    }

pub returns : goal.returns
returns c =
    let w = lent c.args.h c.args.base c.args.memory.now c.args.table.now in
    record {
      table_after = served-probe c.args.c.fid c.args.c.a0 c.args.c.a1 w c.requires.0 c.if-c-eq-SYNC_SRET.false c.if-c-eq-SET.false;
      puts = rw (none_said c.args.c.fid c.args.c.a0 c.args.c.a1 w c.requires.0 c.if-c-eq-SYNC_SRET.false) (put-nothing c.args.told.now);
    }
