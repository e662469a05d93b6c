-- `abi::requests::nacl_queue_hfence` meets its contract: the width is tested, and the request is made at it.
use mathlib.Core.Path.{◌∙◌}
use Rattle.hypervisor.specs.Requests.{Hfence}
use Rattle.abi.proofs.Codes.{as_is}
use Rattle.abi.proofs.Requested.{no-width, small, crosses}
use Rattle.abi.proofs.requests.nacl_queue_hfence.Goals as goal

pub returns-in_default : goal.returns-in_default
returns-in_default c = let s = c.args in
    no-width s.xlen (Hfence (record { kind = s.kind; order = s.order; vmid = s.vmid; asid = s.asid; number = s.number; count = s.count })) s.page.now c.in_default.ensures.1 c.in_default.ensures.2

pub one_number-requires : goal.one_number-requires
one_number-requires c = let s = c.args in
    small s.xlen (Hfence (record { kind = s.kind; order = s.order; vmid = s.vmid; asid = s.asid; number = s.number; count = s.count })) s.page.now c.in-Ok.ensures c.queue.ensures

pub returns : goal.returns
returns c = let s = c.args in
    crosses s.xlen (Hfence (record { kind = s.kind; order = s.order; vmid = s.vmid; asid = s.asid; number = s.number; count = s.count })) s.page.now c.in-Ok.ensures c.queue.ensures (as_is c.one_number.type_inv ∙ c.one_number.ensures)
