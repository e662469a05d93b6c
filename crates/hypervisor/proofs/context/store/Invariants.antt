-- The loop's invariant: the words before word i are stored.
use Rattle.hypervisor.proofs.ContextStores.{Storing}
use Rattle.hypervisor.proofs.context.store.Given as goal

abbrev pub invariant-loop-i : goal.invariant-loop-i
invariant-loop-i l = Storing l.x l.words l.initial.page l.page l.i
