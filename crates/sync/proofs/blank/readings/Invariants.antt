-- `sync::blank::readings` meets its contract. The loop's invariant: the turns before t are stored.
use Rattle.sync.proofs.BlankLaws.{Storing}
use Rattle.sync.proofs.blank.readings.Given as goal

abbrev pub invariant-loop-t : goal.invariant-loop-t
invariant-loop-t l = Storing l.h l.initial.page l.page l.t
