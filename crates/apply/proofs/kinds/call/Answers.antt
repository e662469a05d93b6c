-- `apply::kinds::call` meets its contract: nacl makes the call that the body tells, and the slots removed are counted before and after it.
use Rattle.world.specs.World.{lent}
use Rattle.apply.specs.Effects.{memory_base}
use Rattle.apply.proofs.EffectLaws.{has-called}
use Rattle.apply.proofs.kinds.call.Goals as goal

pub returns-clause-has : goal.returns-clause-has
returns-clause-has c =
    let a = c.args in
    rw (← c.word.ensures, ← c.word-2.ensures, ← c.word-3.ensures, ← c.word-4.ensures, ← c.word-5.ensures)
    (has-called (lent a.h memory_base a.memory.now a.table.now) c.word.result c.word-2.result c.word-3.result c.word-4.result
    c.word-5.result c.call-called.ensures c.used_count-before.ensures.0 c.used_count.ensures.0 c.saturating_sub.ensures)

pub returns-clause-wrote : goal.returns-clause-wrote
returns-clause-wrote c =
    rw (← c.word.ensures, ← c.word-2.ensures, ← c.word-3.ensures, ← c.word-4.ensures, ← c.word-5.ensures) c.call-called.ensures.told
