-- Registers and pages keep the laws that the argument about register turns uses.
use mathlib.Core.Path.{◌≡◌}
use mathlib.Core.Bool.{false}
use Prim.Native.Nat.{ℕ}
use Rattle.layout.specs.declared.xlen.Xlen.{Xlen}
use Rattle.csr.specs.Csrs.{Csr, followers}
use Rattle.hart.specs.declared.record.Hart.{Hart}
use Rattle.hart.specs.Registers.{read, write}
use Rattle.hart.proofs.Frame.{member as mem, write-frame}
use Rattle.hart.proofs.WriteTwice.{write-twice}
use Rattle.page.proofs.RegisterLaws.{same}
use Rattle.turns.proofs.Model.{Laws}
use Rattle.page.proofs.RegisterLaws

read-write : (c d : Csr) (v : ℕ) (h : Hart) → same d c ≡ false → mem d (followers c) ≡ false → read d (write c v h) ≡ read d h
read-write c d v h n m = write-frame c d v h (rw (n, m))

pub laws : (xlen : Xlen) → Laws xlen
laws xlen =
    record {
      same-eq = RegisterLaws.same-eq;
      page-put = RegisterLaws.page-put xlen;
      page-clear = RegisterLaws.page-clear xlen;
      dirty-put = RegisterLaws.dirty-put xlen;
      dirty-clear-same = RegisterLaws.dirty-clear-same xlen;
      dirty-clear-other = RegisterLaws.dirty-clear-other xlen;
      word-put = RegisterLaws.word-put xlen;
      word-clear = RegisterLaws.word-clear xlen;
      put_same = RegisterLaws.put_same xlen;
      put_other = RegisterLaws.put_other xlen;
      put-clear = RegisterLaws.put-clear xlen;
      clear_comm = RegisterLaws.clear_comm xlen;
      clear-clean = RegisterLaws.clear-clean xlen;
      read-write = read-write;
      write-twice = write-twice;
    }
