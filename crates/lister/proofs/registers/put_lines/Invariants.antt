-- `put_lines` meets its contract: the lines of the marked ones passed are put.
use mathlib.Core.Bool.{◌&&◌}
use Rattle.csr.specs.Csrs.{Csr, every_csr, has}
use Rattle.page.specs.Registers.{is_dirty}
use Rattle.lister.specs.Listing.{csr_line}
use Rattle.lister.proofs.Passing.{Passed}
use Rattle.lister.proofs.registers.put_lines.Given as goal

abbrev pub invariant-loop-t : goal.invariant-loop-t
invariant-loop-t l = Passed (λ (c : Csr). has l.x c && is_dirty l.image c) (csr_line l.x l.image) every_csr l.initial.out l.t l.out l.count
