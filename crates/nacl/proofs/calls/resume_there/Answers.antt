-- `nacl::calls::resume_there` meets its contract: SRET works on the page's part of memory, for which there is room.
use Prim.Native.Nat.{◌+◌, ◌-◌}
use native.Mathlib.Omega.{arith}
use Rattle.layout.specs.Width.{bytes}
use Rattle.layout.specs.Geometry.{page_size}
use Rattle.world.proofs.MemoryLaws.{Room}
use Rattle.world.proofs.WorldLaws.{room}
use Rattle.sret.specs.Sret.{sret, sret_reports}
use Rattle.nacl.proofs.Outcomes.{on-page}
use Rattle.nacl.proofs.Said.{said-there}
use Rattle.nacl.proofs.calls.resume_there.Goals as goal

pub overflow_add-end : goal.overflow_add-end
overflow_add-end c =
    let fits : Room (page_size (bytes c.args.h.xlen)) c.page_offset-at.result c.args.memory.now =
    rw c.page_offset-at.ensures (room c.args.h.xlen c.args.base c.args.memory.now c.args.h.shmem c.requires.0) in
    omega (arith, fits, c.page_size.ensures)

pub returns : goal.returns
returns c = let a = c.args in
    let o = c.page_offset-at.result in record {
      on_page = rw (← c.page_offset-at.ensures)
          (on-page a.h.xlen (sret a.h.xlen) o (o + c.page_size.result - o) a.h a.memory.now a.table.now (omega (arith, c.page_size.ensures)) c.resume.ensures.table_after);
      puts = rw (← c.page_offset-at.ensures)
          (said-there (sret_reports a.h.xlen) a.h.xlen o (o + c.page_size.result - o) a.h a.memory.now a.table.now (omega (arith, c.page_size.ensures)) c.resume.ensures.puts);
    }
