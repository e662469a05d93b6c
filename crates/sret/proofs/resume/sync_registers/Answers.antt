-- `sret::resume::sync_registers` meets its contract: no synchronization has as many steps as are allowed.
use mathlib.Core.List.{[]}
use native.Mathlib.Omega.{arith}
use Rattle.world.specs.State.{state_from}
use Rattle.sret.proofs.Whole.{registers-done, registers-left}
use Rattle.sret.proofs.Said.{registers-said, registers-few, registers-silent}
use Rattle.sret.proofs.resume.sync_registers.Goals as goal

pub returns-then-has : goal.returns-then-has
returns-then-has c = let x = c.args.h.xlen in (
  λ table. registers-done x c.args.h.features c.requires.0 (omega arith) c.has.ensures c.if-has.true (c.turns.ensures.0 table),
  λ table. registers-said x 0xFFFFFFFFFFFFFFFF (state_from c.args.h c.args.page.now table) (c.turns.ensures.1 table) c.args.h.features (omega arith) c.has.ensures c.if-has.true,
  registers-few x 0xFFFFFFFFFFFFFFFF (state_from c.args.h c.args.page.now []) (c.turns.ensures.1 []),
)

pub returns : goal.returns
returns c = let a = c.args in (
  λ table. registers-left a.h.xlen a.h.features (state_from a.h a.page.now table) c.has.ensures c.if-has.false,
  λ table. registers-silent a.h.xlen a.h.features (state_from a.h a.page.now table) a.told.now c.has.ensures c.if-has.false,
  omega arith,
)
