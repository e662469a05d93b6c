-- `abi::nacl_sync_stoppable` meets its contract: a block that is not well formed is refused, and the record of any other is handed on and written back.
use mathlib.Core.Path.{refl, sym, ◌∙◌}
use Rattle.nacl.proofs.Said.{half-told}
use Rattle.abi.proofs.Codes.{as_is}
use Rattle.abi.proofs.Crossed.{refused, crossed}
use Rattle.abi.proofs.nacl_sync_stoppable.Goals as goal

pub returns-then-not-is_well_formed : goal.returns-then-not-is_well_formed
returns-then-not-is_well_formed c = refused (sym c.is_well_formed.ensures.value ∙ c.if-not-is_well_formed.true) (as_is c.refuse.type_inv ∙ c.refuse.ensures.0, c.refuse.ensures.1)

pub returns : goal.returns
returns c =
    let done = rw c.decode.ensures at c.stoppable-done.ensures in
    crossed (sym c.is_well_formed.ensures.value ∙ c.if-not-is_well_formed.false)
    (record { said = done.answer.same; count = done.steps; all = done.done; world = done.world; many = half-told _ done.told; reports = done.told.bytes })
    (c.store.ensures, as_is c.tell.type_inv ∙ c.tell.ensures.0, c.tell.ensures.1)
