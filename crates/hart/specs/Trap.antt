-- The trap back from the guest (02, Req 02), of the record.
use Rattle.std.specs.Prelude.{Bool, false, cond, ℕ, ◌+◌, ◌*◌, ◌^◌}
use Rattle.layout.specs.Bits.{clear_bit, set_bit}
use Rattle.csr.specs.Csrs.{Hstatus, Htval, Htinst}
use Rattle.hart.specs.declared.record.Hart.{Hart}
use Rattle.hart.specs.declared.record.Mode.TheVariants.{S}
use Rattle.hart.specs.declared.trap.Trap.{Trap}
use Rattle.hart.specs.Record.{is_s}
use Rattle.hart.specs.Stored.{held, hold}

-- x with bit k taking b
abbrev pub with_bit : ℕ → ℕ → Bool → ℕ
with_bit x k b = clear_bit x k + cond b 1 0 * 2 ^ k

-- hstatus: GVA, bit 6, takes the bit given, SPV, bit 7, becomes 1, SPVP, bit 8, takes the old mode
unfoldable pub trap_hstatus : Bool → Bool → ℕ → ℕ
trap_hstatus gva s v = with_bit (set_bit (with_bit v 6 gva) 7) 8 s

-- V off; hstatus as above; SPP takes the old mode, SPIE takes SIE, SIE 0, sepc takes pc with bit 0 cleared, mode S, pc takes stvec, and htval,
-- htinst, scause and stval take theirs
unfoldable pub trapped : Trap → Hart → Hart
trapped t h =
    record {
      xlen = h.xlen;
      csrs = hold Htinst t.htinst (hold Htval t.htval (hold Hstatus (trap_hstatus t.gva (is_s h.mode) (held Hstatus h.csrs)) h.csrs));
      lines = h.lines;
      shmem = h.shmem;
      virt = false;
      mode = S;
      pc = h.stvec;
      sepc = clear_bit h.pc 0;
      stvec = h.stvec;
      scause = t.cause;
      stval = t.tval;
      sie = false;
      spie = h.sie;
      spp = is_s h.mode;
      dropped = h.dropped;
      features = h.features;
      x = h.x;
    }
