-- The hart record (01, "What the monitor lends"): a fresh hart, and every change of a part of one.
use Rattle.std.specs.Prelude.{Bool, true, false, List, ℕ, ◌%◌, eqb, replicate, Option, None}
use Rattle.layout.specs.Bits.{bit_of, clear_bit}
use Rattle.layout.specs.declared.xlen.Xlen.{Xlen}
use Rattle.csr.specs.Csrs.{Hstatus}
use Rattle.hart.specs.declared.record.Hart.{Hart}
use Rattle.hart.specs.declared.record.Mode.{Mode}
use Rattle.hart.specs.declared.record.Mode.TheVariants.{U, S}
use Rattle.hart.specs.Stored.{held, hold, fresh_csrs}

-- of this width, everything 0 but for the stored registers' fresh_csrs, V off, mode S, no page, features the low four bits of the number given
abbrev pub fresh : Xlen → ℕ → Hart
fresh x features =
    record {
      xlen = x;
      csrs = fresh_csrs x;
      lines = 0;
      shmem = None;
      virt = false;
      mode = S;
      pc = 0;
      sepc = 0;
      stvec = 0;
      scause = 0;
      stval = 0;
      sie = false;
      spie = false;
      spp = false;
      dropped = 0;
      features = features % 16;
      x = replicate 32 0;
    }

-- h with other stored registers
abbrev pub with_csrs : Hart → List ℕ → Hart
with_csrs h csrs =
    record {
      xlen = h.xlen;
      csrs = csrs;
      lines = h.lines;
      shmem = h.shmem;
      virt = h.virt;
      mode = h.mode;
      pc = h.pc;
      sepc = h.sepc;
      stvec = h.stvec;
      scause = h.scause;
      stval = h.stval;
      sie = h.sie;
      spie = h.spie;
      spp = h.spp;
      dropped = h.dropped;
      features = h.features;
      x = h.x;
    }

-- the record with other lines
abbrev pub with_lines : Hart → ℕ → Hart
with_lines h lines =
    record {
      xlen = h.xlen;
      csrs = h.csrs;
      lines = lines;
      shmem = h.shmem;
      virt = h.virt;
      mode = h.mode;
      pc = h.pc;
      sepc = h.sepc;
      stvec = h.stvec;
      scause = h.scause;
      stval = h.stval;
      sie = h.sie;
      spie = h.spie;
      spp = h.spp;
      dropped = h.dropped;
      features = h.features;
      x = h.x;
    }

-- the record with another page address
abbrev pub with_shmem : Hart → Option ℕ → Hart
with_shmem h s =
    record {
      xlen = h.xlen;
      csrs = h.csrs;
      lines = h.lines;
      shmem = s;
      virt = h.virt;
      mode = h.mode;
      pc = h.pc;
      sepc = h.sepc;
      stvec = h.stvec;
      scause = h.scause;
      stval = h.stval;
      sie = h.sie;
      spie = h.spie;
      spp = h.spp;
      dropped = h.dropped;
      features = h.features;
      x = h.x;
    }

-- the record with other general registers
abbrev pub with_general : Hart → List ℕ → Hart
with_general h x =
    record {
      xlen = h.xlen;
      csrs = h.csrs;
      lines = h.lines;
      shmem = h.shmem;
      virt = h.virt;
      mode = h.mode;
      pc = h.pc;
      sepc = h.sepc;
      stvec = h.stvec;
      scause = h.scause;
      stval = h.stval;
      sie = h.sie;
      spie = h.spie;
      spp = h.spp;
      dropped = h.dropped;
      features = h.features;
      x = x;
    }

-- the record with another count of writes that dropped bits
abbrev pub with_dropped : Hart → ℕ → Hart
with_dropped h n =
    record {
      xlen = h.xlen;
      csrs = h.csrs;
      lines = h.lines;
      shmem = h.shmem;
      virt = h.virt;
      mode = h.mode;
      pc = h.pc;
      sepc = h.sepc;
      stvec = h.stvec;
      scause = h.scause;
      stval = h.stval;
      sie = h.sie;
      spie = h.spie;
      spp = h.spp;
      dropped = n;
      features = h.features;
      x = h.x;
    }

-- SPV, bit 7 of hstatus
abbrev pub spv : Hart → Bool
spv h = eqb (bit_of (held Hstatus h.csrs) 7) 1

-- the mode that SPP names
abbrev pub mode_of : Bool → Mode
mode_of true = S
mode_of false = U

-- the mode is S
abbrev pub is_s : Mode → Bool
is_s U = false
is_s S = true

-- SRET: V takes SPV, mode takes SPP, SPV 0, SIE takes SPIE, SPIE 1, SPP 0, pc takes sepc
unfoldable pub returned : Hart → Hart
returned h =
    record {
      xlen = h.xlen;
      csrs = hold Hstatus (clear_bit (held Hstatus h.csrs) 7) h.csrs;
      lines = h.lines;
      shmem = h.shmem;
      virt = spv h;
      mode = mode_of h.spp;
      pc = h.sepc;
      sepc = h.sepc;
      stvec = h.stvec;
      scause = h.scause;
      stval = h.stval;
      sie = h.spie;
      spie = true;
      spp = false;
      dropped = h.dropped;
      features = h.features;
      x = h.x;
    }
