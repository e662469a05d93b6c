-- `queue` meets its contract: four stores are all.
use mathlib.Core.Path.{◌∙◌}
use Rattle.hypervisor.proofs.EntryStores.{all-four}
use Rattle.hypervisor.proofs.fences.queue.Goals as goal

pub returns : goal.returns
returns c = let s = c.args in
    record { answer = c.queue_for.ensures.answer; page = c.queue_for.ensures.page ∙ all-four s.x s.a s.page.now }
