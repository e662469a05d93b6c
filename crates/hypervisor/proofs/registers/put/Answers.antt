-- `registers::put` meets its contract: store by store, up to the limit.
use Rattle.std.proofs.Common.{◌≡◌, ◌∙◌, arith}
use Rattle.hypervisor.proofs.RegisterStores.{after_none, after-word, after-mark}
use Rattle.hypervisor.proofs.registers.put.Goals as goal
use Rattle.hypervisor.proofs.registers.put.Goals.{then-limit-ge1, else-limit-ge1}

pub returns-then-limit-ge2 : goal.returns-then-limit-ge2
returns-then-limit-ge2 c = let s = c.args in
    elim c.if-limit-ge1.branch [
      | then-limit-ge1 w ↦ after-mark s.x s.value s.t s.page.now s.limit (omega arith)
          (after-word s.x s.value s.t s.page.now c.index-i.ensures.0 (w.page-is ∙ w.put_csr.ensures)) c.index-i.ensures.0 c.set_dirty.ensures
      | else-limit-ge1 w ↦ absurd (omega arith)
    ]

pub returns-else-limit-ge2 : goal.returns-else-limit-ge2
returns-else-limit-ge2 c = let s = c.args in
    elim c.if-limit-ge1.branch [
      | then-limit-ge1 w ↦ let one : s.limit ≡ 1 = omega arith in
          rw one (after-word s.x s.value s.t s.page.now c.index-i.ensures.0 (w.page-is ∙ w.put_csr.ensures))
      | else-limit-ge1 w ↦ let zero : s.limit ≡ 0 = omega arith in rw zero (w.page-is ∙ after_none s.x s.value s.t s.page.now)
    ]
