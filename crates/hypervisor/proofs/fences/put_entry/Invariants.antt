-- The loop's invariant: the words so far are stored.
use Rattle.std.proofs.Common.{map}
use Rattle.hypervisor.proofs.EntryStores.{Entered}
use Rattle.hypervisor.proofs.fences.put_entry.Given as goal

abbrev pub invariant-loop-k : goal.invariant-loop-k
invariant-loop-k l = Entered l.x l.e (map (λ w. w.now) l.yielded) l.initial.page l.page
