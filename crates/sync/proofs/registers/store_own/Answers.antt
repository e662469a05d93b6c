-- `sync::registers::store_own` meets its contract: no step is allowed, or the store is made.
use mathlib.Core.List.{[]}
use native.Mathlib.Omega.{arith}
use Rattle.csr.specs.Csrs.{at_turn}
use Rattle.world.specs.State.{state_from}
use Rattle.turns.specs.Steps.{Store}
use Rattle.turns.proofs.Made.{stop}
use Rattle.turns.proofs.Stores.{store-one}
use Rattle.sync.proofs.registers.store_own.Goals as goal

pub returns-in_err-left : goal.returns-in_err-left
returns-in_err-left c table = let a = c.args in
    rw c.from_residual.ensures (stop a.h.now.xlen (Store (at_turn a.t)) [] (state_from a.h.now a.page.now table) (omega (arith, c.in_err-left.ensures)))

pub returns : goal.returns
returns c table = let a = c.args in
    let e = c.in_ok-left.ensures.1 in
    rw e (store-one a.h.now.xlen (at_turn a.t) (state_from a.h.now a.page.now table) a.limit c.in_ok-left.ensures.0 c.store.ensures)
