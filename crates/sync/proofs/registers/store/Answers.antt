-- `sync::registers::store` meets its contract: what is stored is the reading, in the word of the register's index.
use mathlib.Core.Path.{ap, ◌∙◌}
use Prim.Native.Nat.{ℕ}
use Rattle.csr.specs.Csrs.{at_turn}
use Rattle.page.specs.Registers.{put_csr}
use Rattle.page.proofs.Places.{put_is}
use Rattle.sync.proofs.registers.store.Goals as goal

pub returns : goal.returns
returns c = let a = c.args in
    put_is (at_turn a.t) a.page.now c.requires.0 a.h.now.xlen _ c.put_csr.ensures
    ∙ ap (λ (v : ℕ). put_csr a.h.now.xlen (at_turn a.t) v a.page.now) c.read.ensures
